-- The steps of a level.
use Rattle.std.proofs.Common.{length-drop, ◌≡◌, ℕ, zero, suc, ◌+◌, ◌-◌, ◌≤◌, Bool, true, false, List, [], ◌∷◌, ◌++◌, length, drop, take, reverse, Option, refl, sym, ap, subst, ◌∙◌, arith, append_assoc, add_assoc, zero-add}
use Rattle.std.specs.Prelude.{if◌then◌else◌}
use Rattle.std.proofs.lemmas.List.{length-reverse}
use Rattle.std.proofs.lemmas.Grind.{common_steps}
use Rattle.cl_base.specs.declared.macros.Macro.{Macro}
use Rattle.cl_macro.specs.Rules.{Rules}
use Rattle.cl_macro.specs.declared.word.Word.{Word}
use Rattle.cl_macro.specs.declared.note.Note.{Note}
use Rattle.cl_macro.specs.declared.note.Note.TheVariants as note
use Rattle.cl_macro.specs.declared.level.Level.{Level}
use Rattle.cl_macro.specs.Words.{looks, all_look, place_of, is_ident}
use Rattle.cl_macro.specs.Turns.{Turn, Stays, Misfits, Open, turn, stay_notes}
use Rattle.cl_macro.specs.Replacing.{replacements, step}
use Rattle.cl_macro.specs.Walks.{Walks}
use Rattle.cl_macro.specs.Levels.{ahead, work_of, Passes, Stood, rest_of}
use Rattle.cl_macro.proofs.Walking.{append_nil, walks_none, walks_then, walks_stays, walks_misfits, walks_open}

pub replacements_more : (a b : List Note) → replacements (a ++ b) ≡ replacements a + replacements b
replacements_more [] b = sym (zero-add (replacements b))
replacements_more (n ∷ a) b = ap (λ k. step n + k) (replacements_more a b) ∙ sym (add_assoc (step n) (replacements a) (replacements b))

if_looks : (b : Bool) (w : Word) → replacements (if b then note.Looked w.token.text ∷ [] else []) ≡ 0
if_looks true w = refl
if_looks false w = refl

pub looks_zero : (w : Word) → replacements (looks w) ≡ 0
looks_zero w = if_looks (is_ident w.token.kind) w

pub all_zero : (ws : List Word) → replacements (all_look ws) ≡ 0
all_zero [] = refl
all_zero (w ∷ ws) = let a = looks_zero w in let b = all_zero ws in let e = replacements_more (looks w) (all_look ws) in omega arith

pub stay_zero : (k : ℕ) (w : Word) (ws : List Word) → replacements (stay_notes k w ws) ≡ 0
stay_zero k w ws = let a = looks_zero w in let b = all_zero ws in
    let e = replacements_more (looks w) (note.Faulty k (place_of w) ∷ all_look ws) in
    let z : replacements (note.Faulty k (place_of w) ∷ all_look ws) ≡ 0 = zero-add _ ∙ b in omega arith

both_zero : (a b : List Note) → replacements a ≡ 0 → replacements b ≡ 0 → replacements (a ++ b) ≡ 0
both_zero a b e f = let h = replacements_more a b in omega arith

pub reverse_end : (xs ys : List Word) (w : Word) → xs ≡ ys ++ w ∷ [] → reverse xs ≡ w ∷ reverse ys
reverse_end xs ys w e = ap reverse e ∙ grind (arith, common_steps)

pub drop_none : (n : ℕ) → drop n (let ws : List Word = [] in ws) ≡ []
drop_none zero = refl
drop_none (suc n) = refl

-- tokens that are taken leave no more
pub passes_short : (n : ℕ) (level level2 : Level) (most : ℕ) → Passes n level level2 → length (rest_of level) ≤ most → length (rest_of level2) ≤ most
passes_short n level level2 most p h = let e : length (rest_of level2) ≡ length (rest_of level) - (n - length level.work) = ap length p.rest ∙ length-drop (n - length level.work) (rest_of level) in omega arith

module _ (rules : Rules) where
  -- what is to be done goes by the macros alone
  pub same_turn : (ms : List ℕ → Option Macro) (w : Word) (ws : List Word) (t : Turn) → rules.macros ≡ ms → turn ms w ws ≡ t → turn rules.macros w ws ≡ t
  same_turn ms w ws t e h = ap (λ (f : List ℕ → Option Macro). turn f w ws) e ∙ h

  pub stood_none : (first : Level) (before : List Note) → Stood rules first before [] first before
  stood_none first before = record {
    front = [];
    more = [];
    out = sym (append_nil first.out);
    all = sym (append_nil before);
    none = refl;
    kept = λ e. e;
    walks = walks_none rules (work_of first) (rest_of first);
  }

  pub stood_pop : (first : Level) (before : List Note) (level level2 : Level) (notes : List Note) (w : Word) → Stood rules first before [] level notes
      → level.work ≡ level2.work ++ w ∷ [] → rest_of level2 ≡ (rest_of level) → level2.out ≡ level.out → Stood rules first before (w ∷ []) level2 notes
  stood_pop first before level level2 notes w s e er eo = record {
    front = s.front;
    more = s.more;
    out = eo ∙ s.out;
    all = s.all;
    none = s.none;
    kept = λ e. er ∙ s.kept e;
    walks = subst (λ (r : List Word). Walks rules (work_of first) (rest_of first) s.front s.more (w ∷ work_of level2) r) (sym er)
        (subst (λ (ws : List Word). Walks rules (work_of first) (rest_of first) s.front s.more ws (rest_of level)) (reverse_end level.work level2.work w e) s.walks);
  }

  -- a step from a token that was taken
  stood_by : (first : Level) (before : List Note) (level level3 : Level) (notes notes3 : List Note) (w : Word) (front : List Word) (more : List Note)
      → Stood rules first before (w ∷ []) level notes
      → Walks rules (w ∷ work_of level) (rest_of level) front more (work_of level3) (rest_of level3)
      → replacements more ≡ 0 → level3.out ≡ level.out ++ front → notes3 ≡ notes ++ more → (rest_of level ≡ [] → rest_of level3 ≡ [])
      → Stood rules first before [] level3 notes3
  stood_by first before level level3 notes notes3 w front more s a z eo en k = record {
    front = s.front ++ front;
    more = s.more ++ more;
    out = eo ∙ ap (λ xs. xs ++ front) s.out ∙ append_assoc first.out s.front front;
    all = en ∙ ap (λ xs. xs ++ more) s.all ∙ append_assoc before s.more more;
    none = both_zero s.more more s.none z;
    kept = λ e. k (s.kept e);
    walks = walks_then rules _ _ _ _ _ _ _ _ _ _ s.walks a;
  }

  pub stood_stays : (first : Level) (before : List Note) (level level3 : Level) (notes notes3 : List Note) (w : Word)
      → Stood rules first before (w ∷ []) level notes → turn rules.macros w (ahead level) ≡ Stays
      → level3.work ≡ level.work → rest_of level3 ≡ (rest_of level) → level3.out ≡ level.out ++ w ∷ [] → notes3 ≡ notes ++ looks w
      → Stood rules first before [] level3 notes3
  stood_stays first before level level3 notes notes3 w s t ew er eo en =
      stood_by first before level level3 notes notes3 w (w ∷ []) (looks w) s
      (subst (λ (r : List Word). Walks rules (w ∷ work_of level) (rest_of level) (w ∷ []) (looks w) (work_of level3) r) (sym er)
      (subst (λ (ws : List Word). Walks rules (w ∷ work_of level) (rest_of level) (w ∷ []) (looks w) ws (rest_of level)) (sym (ap reverse ew)) (walks_stays rules w (work_of level) (rest_of level) t)))
      (looks_zero w) eo en (λ e. er ∙ e)

  pub taken_length : (n : ℕ) (ws : List Word) → n ≤ length ws → length (take n ws) ≡ n
  taken_length n ws h = grind (arith, common_steps)

  passed : (n : ℕ) (level level3 : Level) (w : Word) (front : List Word) (more : List Note) (m : ℕ) → m ≡ n → Passes n level level3
      → Walks rules (w ∷ work_of level) (rest_of level) front more (drop m (work_of level)) (drop (m - length (work_of level)) (rest_of level))
      → Walks rules (w ∷ work_of level) (rest_of level) front more (work_of level3) (rest_of level3)
  passed n level level3 w front more m e p a =
      subst (λ (r : List Word). Walks rules (w ∷ work_of level) (rest_of level) front more (work_of level3) r)
      (ap (λ k. drop (k - length (work_of level)) (rest_of level)) e ∙ ap (λ k. drop (n - k) (rest_of level)) (length-reverse level.work) ∙ sym p.rest)
      (subst (λ (ws : List Word). Walks rules (w ∷ work_of level) (rest_of level) front more ws (drop (m - length (work_of level)) (rest_of level)))
      (ap (λ k. drop k (work_of level)) e ∙ sym p.work) a)

  pub stood_misfits : (first : Level) (before : List Note) (level level3 : Level) (notes notes3 : List Note) (w : Word) (n : ℕ)
      → Stood rules first before (w ∷ []) level notes → turn rules.macros w (ahead level) ≡ Misfits (take n (ahead level)) → n ≤ length (ahead level)
      → Passes n level level3 → level3.out ≡ level.out ++ w ∷ take n (ahead level) → notes3 ≡ notes ++ stay_notes 19 w (take n (ahead level))
      → Stood rules first before [] level3 notes3
  stood_misfits first before level level3 notes notes3 w n s t h p eo en =
      stood_by first before level level3 notes notes3 w (w ∷ take n (ahead level)) (stay_notes 19 w (take n (ahead level))) s
      (passed n level level3 w _ _ _ (taken_length n (ahead level) h) p (walks_misfits rules w (work_of level) (rest_of level) (take n (ahead level)) t))
      (stay_zero 19 w (take n (ahead level))) eo en (λ e. p.rest ∙ ap (drop (n - length level.work)) e ∙ drop_none (n - length level.work))

  take_all : (ws : List Word) (n : ℕ) → n ≡ length ws → take n ws ≡ ws
  take_all ws n e = grind (arith, common_steps)

  drop_all : (ws : List Word) (n : ℕ) → length ws ≤ n → drop n ws ≡ []
  drop_all ws n e = grind (arith, common_steps)

  pub stood_open : (first : Level) (before : List Note) (level level3 : Level) (notes notes3 : List Note) (w : Word) (n : ℕ)
      → Stood rules first before (w ∷ []) level notes → turn rules.macros w (ahead level) ≡ Open → n ≡ length (ahead level)
      → Passes n level level3 → level3.out ≡ level.out ++ w ∷ take n (ahead level) → notes3 ≡ notes ++ stay_notes 20 w (take n (ahead level))
      → Stood rules first before [] level3 notes3
  stood_open first before level level3 notes notes3 w n s t h p eo en =
      let all : take n (ahead level) ≡ ahead level = take_all (ahead level) n h in
      let long : n ≡ length (work_of level) + length (rest_of level) = h ∙ grind (arith, common_steps) in
      let none : work_of level3 ≡ [] = p.work ∙ drop_all (work_of level) n (omega arith) in
      let far : rest_of level3 ≡ [] = p.rest ∙ drop_all (rest_of level) (n - length level.work) (let r = length-reverse level.work in omega arith) in
      stood_by first before level level3 notes notes3 w (w ∷ ahead level) (stay_notes 20 w (ahead level)) s
      (subst (λ (r : List Word). Walks rules (w ∷ work_of level) (rest_of level) (w ∷ ahead level) (stay_notes 20 w (ahead level)) (work_of level3) r) (sym far)
      (subst (λ (ws : List Word). Walks rules (w ∷ work_of level) (rest_of level) (w ∷ ahead level) (stay_notes 20 w (ahead level)) ws []) (sym none)
      (walks_open rules w (work_of level) (rest_of level) t)))
      (stay_zero 20 w (ahead level)) (eo ∙ ap (λ xs. level.out ++ w ∷ xs) all) (en ∙ ap (λ xs. notes ++ stay_notes 20 w xs) all) (λ e. far)

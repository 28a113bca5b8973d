-- A run, token by token.
use Rattle.std.proofs.Common.{◌≡◌, ℕ, zero, suc, ◌+◌, ◌-◌, ◌≤◌, ◌<◌, List, [], ◌∷◌, ◌++◌, length, drop, take, map, reverse, refl, sym, ap, subst, ◌∙◌, arith, append_assoc, length-drop}
use Rattle.cl_base.specs.declared.macros.Macro.{Macro}
use Rattle.cl_macro.specs.Rules.{Rules}
use Rattle.cl_macro.specs.declared.word.Word.{Word}
use Rattle.cl_macro.specs.declared.note.Note.{Note}
use Rattle.cl_macro.specs.declared.note.Told.{Told}
use Rattle.cl_base.specs.declared.token.Span.{Span}
use Rattle.cl_macro.specs.Words.{looks}
use Rattle.cl_macro.specs.Turns.{Turn, Stays, Invokes, Misfits, Open, turn, stay_notes}
use Rattle.std.proofs.lemmas.Grind.{common_steps}
use Rattle.cl_macro.specs.Replacing.{settled_word, Works, done, stays, invokes, misfits, open_ended, replacements, Expands, whole, large, settled, span_of, all_told}
use Rattle.cl_macro.specs.declared.level.Level.{Level}
use Rattle.cl_macro.specs.Levels.{ahead, Passes, Within, rest_of}
use Rattle.cl_macro.proofs.Standing.{looks_zero, stay_zero, replacements_more, taken_length}

-- what is invoked takes what it takes
pub same_taken : (m n : Macro) (x y : List Word) → Invokes m x ≡ Invokes n y → x ≡ y
same_taken m n x y e = cc

pub not_stays : (m : Macro) (x : List Word) → Invokes m x ≡ Stays → ⊥
not_stays m x e = cc

pub not_misfits : (m : Macro) (x y : List Word) → Invokes m x ≡ Misfits y → ⊥
not_misfits m x y e = cc

pub not_open : (m : Macro) (x : List Word) → Invokes m x ≡ Open → ⊥
not_open m x e = cc

module _ (rules : Rules) where
  pub left_short : {work rest out left : List Word} {ns : List Note} → Works rules work rest out left ns → length left ≤ length rest
  left_short (done rest) = omega arith
  left_short (stays w work rest out left ns t d) = left_short d
  left_short (invokes w work rest m behind full inner out left ns t a d) =
      let h = left_short d in let e = length-drop (length behind - length work) rest in omega arith
  left_short (misfits w work rest behind out left ns t d) =
      let h = left_short d in let e = length-drop (length behind - length work) rest in omega arith
  left_short (open_ended w work rest t) = omega arith

  -- a token that isn't invoked makes no replacement
  pub not_large : (w : Word) (rest : List Word) → ((out left : List Word) (ns : List Note) → Works rules (w ∷ []) rest out left ns → 65535 < replacements ns)
      → (t : Turn) → turn rules.macros w rest ≡ t → (m : Macro) × (behind : List Word) × (turn rules.macros w rest ≡ Invokes m behind)
  not_large w rest k Stays e = let h = k _ _ _ (stays w [] rest [] rest [] e (done rest)) in
      let z = looks_zero w in let a = replacements_more (looks w) [] in absurd (omega arith)
  not_large w rest k (Invokes m behind) e = (m, behind, e)
  not_large w rest k (Misfits behind) e = let h = k _ _ _ (misfits w [] rest behind [] _ [] e (done_drop behind rest)) in
      let z = stay_zero 19 w behind in let a = replacements_more (stay_notes 19 w behind) [] in absurd (omega arith)
    where
      done_drop : (behind rest : List Word) → Works rules (drop (length behind) []) (drop (length behind - 0) rest) [] (drop (length behind - 0) rest) []
      done_drop [] rest = done _
      done_drop (b ∷ bs) rest = done _
  not_large w rest k Open e = let h = k _ _ _ (open_ended w [] rest e) in
      let z = stay_zero 20 w rest in absurd (omega arith)

  -- what stands in a text does so where some of it is taken
  pub within_drop : (text : List ℕ) (n : ℕ) (ws : List Word) → Within text ws → Within text (drop n ws)
  within_drop text zero ws h = h
  within_drop text (suc n) [] h = h
  within_drop text (suc n) (w ∷ ws) h = within_drop text n ws h.1

  pub left_within : (text : List ℕ) {work rest out left : List Word} {ns : List Note} → Works rules work rest out left ns → Within text rest → Within text left
  left_within text (done rest) h = h
  left_within text (stays w work rest out left ns t d) h = left_within text d h
  left_within text (invokes w work rest m behind full inner out left ns t a d) h = left_within text d (within_drop text (length behind - length work) rest h)
  left_within text (misfits w work rest behind out left ns t d) h = left_within text d (within_drop text (length behind - length work) rest h)
  left_within text (open_ended w work rest t) h = tt

module _ (rules_at : Span → Rules) where
  -- what has come of a run so far, where these tokens are left
  pub record Gone (run : List Word) (words : List Word) (ts : List Told) (rest : List Word) : Type 0 where
    pub goes : (more : List Word) (later : List Told) → Expands rules_at (length words) rest more later → Expands rules_at 0 run (words ++ more) (ts ++ later)

  pub gone_none : (run words : List Word) (ts : List Told) → words ≡ [] → ts ≡ [] → Gone run words ts run
  gone_none run words ts e f = subst (λ (ws : List Word). Gone run ws ts run) (sym e) (subst (λ (t : List Told). Gone run [] t run) (sym f) (record { goes = λ more later g. g }))

  join : {A : Type 0} (xs ys more all : List A) → all ≡ xs ++ ys → xs ++ (ys ++ more) ≡ all ++ more
  join xs ys more all e = sym (append_assoc xs ys more) ∙ ap (λ zs. zs ++ more) (sym e)

  settled_length : (at : Span) (out : List Word) → length (map (settled_word at) out) ≡ length out
  settled_length at [] = refl
  settled_length at (w ∷ ws) = ap suc (settled_length at ws)

  append_length : (xs ys : List Word) → length (xs ++ ys) ≡ length xs + length ys
  append_length xs ys = grind (arith, common_steps)

  pub gone_whole : (run rest words : List Word) (ts : List Told) (w : Word) (behind out left words2 : List Word) (ns : List Note) (ts2 : List Told)
      → Gone run words ts rest → rest ≡ w ∷ behind → Works (rules_at w.token.at) (w ∷ []) behind out left ns → replacements ns ≤ 65535
      → words2 ≡ words ++ settled w ns out → ts2 ≡ ts ++ all_told (length words) (span_of w ns) ns
      → Gone run words2 ts2 left
  gone_whole run rest words ts w behind out left words2 ns ts2 k e d s ew et = record {
    goes = λ more later g.
        let n : length words2 ≡ length words + length out = ap length ew ∙ append_length words (settled w ns out) ∙ ap (λ j. length words + j) (settled_length (span_of w ns) out) in
        let h = k.goes (settled w ns out ++ more) (all_told (length words) (span_of w ns) ns ++ later)
        (subst (λ (r : List Word). Expands rules_at (length words) r (settled w ns out ++ more) (all_told (length words) (span_of w ns) ns ++ later)) (sym e)
        (whole (length words) w behind out left more ns later d s (subst (λ (j : ℕ). Expands rules_at j left more later) n g))) in
        subst (λ (t : List Told). Expands rules_at 0 run (words2 ++ more) t) (join ts _ later ts2 et)
        (subst (λ (ws : List Word). Expands rules_at 0 run ws (ts ++ (all_told (length words) (span_of w ns) ns ++ later))) (join words _ more words2 ew) h);
  }

  pub gone_large : (run rest words : List Word) (ts : List Told) (w : Word) (m : Macro) (behind taken left words2 : List Word) (ts2 : List Told)
      → Gone run words ts rest → rest ≡ w ∷ behind → turn (rules_at w.token.at).macros w behind ≡ Invokes m taken
      → ((out left : List Word) (ns : List Note) → Works (rules_at w.token.at) (w ∷ []) behind out left ns → 65535 < replacements ns)
      → left ≡ drop (length taken) behind → words2 ≡ words ++ w ∷ taken → ts2 ≡ ts ++ all_told (length words) w.token.at (stay_notes 17 w taken)
      → Gone run words2 ts2 left
  gone_large run rest words ts w m behind taken left words2 ts2 k e t big el ew et = record {
    goes = λ more later g.
        let n : length words2 ≡ length words + length (w ∷ taken) = ap length ew ∙ append_length words (w ∷ taken) in
        let ns = all_told (length words) w.token.at (stay_notes 17 w taken) in
        let h = k.goes (w ∷ (taken ++ more)) (ns ++ later)
        (subst (λ (r : List Word). Expands rules_at (length words) r (w ∷ (taken ++ more)) (ns ++ later)) (sym e)
        (large (length words) w behind taken m more later t big
        (subst (λ (l : List Word). Expands rules_at (length words + length (w ∷ taken)) l more later) el (subst (λ (j : ℕ). Expands rules_at j left more later) n g)))) in
        subst (λ (t : List Told). Expands rules_at 0 run (words2 ++ more) t) (join ts _ later ts2 et)
        (subst (λ (ws : List Word). Expands rules_at 0 run ws (ts ++ (ns ++ later))) (join words (w ∷ taken) more words2 ew) h);
  }

  -- the tokens of an invocation that is too large
  pub gone_stay : (run rest words : List Word) (ts : List Told) (first w : Word) (m : Macro) (behind taken : List Word) (count : ℕ) (level level2 : Level) (words2 : List Word) (notes : List Note) (ts2 : List Told)
      → Gone run words ts rest
      → rest ≡ first ∷ behind → w ≡ first → level.work ≡ [] → rest_of level ≡ behind → level.out ≡ []
      → turn (rules_at first.token.at).macros first behind ≡ Invokes m taken → taken ≡ take count (ahead level) → count ≤ length (ahead level)
      → ((out left : List Word) (ns : List Note) → Works (rules_at first.token.at) (first ∷ []) behind out left ns → 65535 < replacements ns)
      → Passes count level level2 → level2.out ≡ level.out ++ w ∷ take count (ahead level) → words2 ≡ words ++ level2.out
      → notes ≡ [] ++ stay_notes 17 w (take count (ahead level)) → ts2 ≡ ts ++ all_told (length words) first.token.at notes
      → Gone run words2 ts2 (rest_of level2)
  gone_stay run rest words ts first w m behind taken count level level2 words2 notes ts2 k e ew lw lr lo t tt2 h big p eo es en et =
      let a : ahead level ≡ behind = (λ i. reverse (lw i) ++ lr i) in
      let tk : take count (ahead level) ≡ take count behind = ap (take count) a in
      let lc : length (take count behind) ≡ count = taken_length (rules_at first.token.at) count behind (subst (λ (ws : List Word). count ≤ length ws) a h) in
      gone_large run rest words ts first m behind (take count behind) (rest_of level2) words2 ts2 k e
      (t ∙ ap (λ ws. Invokes m ws) (tt2 ∙ tk)) big
      (p.rest ∙ (λ i. drop (count - length (lw i)) (lr i)) ∙ ap (λ n. drop n behind) (let z : count - 0 ≡ length (take count behind) = omega arith in z))
      (es ∙ ap (λ ws. words ++ ws) (eo ∙ (λ i. lo i ++ ew i ∷ tk i)))
      (et ∙ ap (λ n. ts ++ all_told (length words) first.token.at n) (en ∙ (λ i. stay_notes 17 (ew i) (tk i))))

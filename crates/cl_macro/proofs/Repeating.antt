-- Work that goes on alike wherever it stands and whatever follows it.
use Rattle.std.proofs.Common.{◌≡◌, ℕ, ◌+◌, ◌-◌, ◌<◌, Bool, true, false, not, List, [], ◌∷◌, ◌++◌, length, drop, map, Option, None, refl, sym, ap, subst, ◌∙◌, arith, ◌⊎◌, inl, inr}
use Rattle.std.specs.Prelude.{if◌then◌else◌, ◌&&◌, ◌||◌}
use Rattle.std.specs.Cmp.Lexicographic.{same_text}
use Rattle.cl_base.specs.declared.token.Kind.{Kind}
use Rattle.cl_base.specs.declared.macros.Macro.{Macro}
use Rattle.cl_base.specs.declared.token.PpToken.{PpToken}
use Rattle.cl_base.specs.declared.token.Span.{Span}
use Rattle.cl_macro.specs.Rules.{Rules}
use Rattle.cl_macro.specs.declared.note.Note.{Note}
use Rattle.cl_macro.specs.declared.word.Word.{Word}
use Rattle.cl_macro.specs.Words.{contains, fresh, is_ident, looks, painted, same}
use Rattle.cl_macro.specs.Levels.{rules_of}
use Rattle.cl_macro.specs.Turns.{Turn, Stays, Invokes, Misfits, Open, turn, turn_of, meaning, args_of, args_by, set_of, invoking}
use Rattle.cl_macro.specs.Params.{asked, raws}
use Rattle.cl_macro.specs.Pasting.{joined_body, spaced}
use Rattle.cl_macro.specs.Made.{made, made_notes}
use Rattle.cl_macro.specs.Replacing.{Works, Each, done, stays, invokes, misfits, open_ended, none, replacements}
use Rattle.cl_macro.specs.code.Flat.{AreLarge, IsAlone, are_flat, is_flat_name}
use Rattle.cl_macro.proofs.Shapes.{EachShape, each_shape}
use Rattle.cl_macro.proofs.Faultless.{made_zero}
use Rattle.cl_macro.proofs.Standing.{looks_zero, replacements_more}
use Rattle.cl_macro.proofs.Proceeding.{invoking_one}
use Rattle.cl_macro.proofs.Flat.{Object, object, Tame, tame_more, tame_painted, tame_spaced, AlikeWord, Alike, alike_more, alike_spaced, quiet, turn_quiet, quiet_invokes, quiet_misfits, quiet_open, name_flat, flat_if, and_left}

-- the macro of a word, by the parts that it goes by
abbrev means : (List ℕ → Option Macro) → Bool → List ℕ → List (List ℕ) → Option Macro
means macros ident text hide = if ident && not (contains hide text) then macros text else None

same_meaning : (macros : List ℕ → Option Macro) (v w : Word) → AlikeWord v w → meaning macros v ≡ meaning macros w
same_meaning macros v w a = λ i. means macros (a.kind i) (a.text i) (a.hide i)

no_args : (m : Macro) → m.params ≡ None → args_of m [] ≡ []
no_args m e = ap (λ (p : Option (List (List ℕ))). args_by m p []) e

no_raws : (m : Macro) → raws m [] ≡ []
unfolding raws
no_raws m = refl

no_asked : (m : Macro) → asked m [] ≡ []
unfolding asked
no_asked m = refl

made_flat : (rules : Rules) (names : List (List ℕ)) (m : Macro) (space : Bool) (set : List (List ℕ)) (one_token : List ℕ → Option Kind) → Object one_token names m
    → made rules m [] [] space set ≡ map (painted set) (spaced space (joined_body rules.one_token m [] []).words)
unfolding made
made_flat rules names m space set one_token o = ap (λ ws. map (painted set) (spaced space ws)) (rw (o.file, o.line) refl)

module _ (rules other : Rules) (names : List (List ℕ)) (em : other.macros ≡ rules.macros) (eo : other.one_token ≡ rules.one_token) (flat : are_flat rules.one_token rules.macros names names ≡ true) where
  -- the same comes of other tokens
  pub record Repeats (work rest : List Word) (ns : List Note) : Type 0 where
    pub out : List Word
    pub notes : List Note
    pub works : Works other work rest out rest notes
    pub counts : replacements notes ≡ replacements ns

  flat_meaning : (w : Word) → (is_ident w.token.kind ≡ true → contains names w.token.text ≡ true) → is_flat_name rules.one_token names (meaning rules.macros w) ≡ true
  flat_meaning w h = flat_if rules.one_token names (is_ident w.token.kind && not (contains w.hide w.token.text)) (rules.macros w.token.text)
      (λ e. name_flat rules.one_token rules.macros names names w.token.text flat (h (and_left (is_ident w.token.kind) _ e)))

  -- what is done with a token doesn't hang on those behind it
  turned : (w : Word) (more : List Word) (t : Turn) → (is_ident w.token.kind ≡ true → contains names w.token.text ≡ true) → turn rules.macros w more ≡ t → quiet (meaning rules.macros w) ≡ t
  turned w more t h e = sym (turn_quiet rules.one_token names (meaning rules.macros w) more (flat_meaning w h)) ∙ e

  turns : (w v : Word) (more : List Word) (t : Turn) → (is_ident w.token.kind ≡ true → contains names w.token.text ≡ true) → AlikeWord w v → quiet (meaning rules.macros w) ≡ t
      → turn other.macros v more ≡ t
  turns w v more t h a e =
      let s : meaning other.macros v ≡ meaning rules.macros w = ap (λ (ms : List ℕ → Option Macro). meaning ms v) em ∙ sym (same_meaning rules.macros w v a) in
      ap (λ o. turn_of o more) s ∙ turn_quiet rules.one_token names (meaning rules.macros w) more (flat_meaning w h) ∙ e

  more_zero : (a b ns ms : List Note) → replacements a ≡ 0 → replacements b ≡ 0 → replacements ns ≡ replacements ms → replacements (a ++ ns) ≡ replacements (b ++ ms)
  more_zero a b ns ms e f g = let h = replacements_more a ns in let k = replacements_more b ms in omega arith

  invoked_count : (w : Word) (behind : List Word) (a b ns : List Note) → a ≡ [] → replacements b ≡ 0 → replacements (invoking w behind ++ (a ++ (b ++ ns))) ≡ 1 + replacements ns
  invoked_count w behind a b ns e f =
      let h = replacements_more (invoking w behind) (a ++ (b ++ ns)) in let k = replacements_more a (b ++ ns) in let l = replacements_more b ns in
      let z : replacements a ≡ 0 = ap replacements e in let i = invoking_one w behind in omega arith

  both_count : (v w : Word) (behind : List Word) (m : Macro) (full : List (List Word)) (inner ns ns2 : List Note) → inner ≡ [] → replacements ns2 ≡ replacements ns
      → replacements (invoking v [] ++ ([] ++ (made_notes other m (raws m (args_of m [])) [] ++ ns2))) ≡ replacements (invoking w behind ++ (inner ++ (made_notes rules m (raws m (args_of m behind)) full ++ ns)))
  both_count v w behind m full inner ns ns2 e f =
      let a = invoked_count v [] [] (made_notes other m (raws m (args_of m [])) []) ns2 refl (made_zero other m (raws m (args_of m [])) []) in
      let b = invoked_count w behind inner (made_notes rules m (raws m (args_of m behind)) full) ns e (made_zero rules m (raws m (args_of m behind)) full) in omega arith

  abbrev made_at : Rules → Macro → Word → List Word → List Word → List (List Word) → List Word
  made_at r m w behind work full = made r m (raws m (args_of m behind)) full w.token.space (set_of w behind) ++ drop (length behind) work

  -- what an object-like macro makes
  made_at_flat : (r : Rules) (m : Macro) (w : Word) (behind work : List Word) (full : List (List Word)) → Object rules.one_token names m → behind ≡ [] → full ≡ []
      → made_at r m w behind work full ≡ map (painted (set_of w [])) (spaced w.token.space (joined_body r.one_token m [] []).words) ++ work
  made_at_flat r m w behind work full o e f = (λ i. made_at r m w (e i) work (f i))
      ∙ ap (λ (args : List (List Word)). made r m (raws m args) [] w.token.space (set_of w []) ++ work) (no_args m o.params)
      ∙ ap (λ (args : List (List Word)). made r m args [] w.token.space (set_of w []) ++ work) (no_raws m)
      ∙ ap (λ ws. ws ++ work) (made_flat r names m w.token.space (set_of w []) rules.one_token o)

  no_drop : (work rest : List Word) → rest ≡ drop (0 - length work) rest
  no_drop work rest = ap (λ n. drop n rest) (let z : 0 ≡ 0 - length work = omega arith in z)

  pub repeats : {work rest out left : List Word} {ns : List Note} → Works rules work rest out left ns → (work2 rest2 : List Word) → Tame names work → Alike work work2 → Repeats work2 rest2 ns
  repeats (done rest) [] rest2 h a = record { out = []; notes = []; works = done rest2; counts = refl }
  repeats (done rest) (v ∷ work2) rest2 h a = absurd a
  repeats (stays w work rest out left ns t d) [] rest2 h a = absurd a
  repeats (stays w work rest out left ns t d) (v ∷ work2) rest2 h a = let q = repeats d work2 rest2 h.1 a.1 in record {
    out = v ∷ q.out;
    notes = looks v ++ q.notes;
    works = stays v work2 rest2 q.out rest2 q.notes (turns w v (work2 ++ rest2) Stays h.0 a.0 (turned w (work ++ rest) Stays h.0 t)) q.works;
    counts = more_zero (looks v) (looks w) q.notes ns (looks_zero v) (looks_zero w) q.counts;
  }
  repeats (invokes w work rest m behind full inner out left ns t each d) [] rest2 h a = absurd a
  repeats (invokes w work rest m behind full inner out left ns t each d) (v ∷ work2) rest2 h a =
      let u = turned w (work ++ rest) (Invokes m behind) h.0 t in
      let i = quiet_invokes (meaning rules.macros w) m behind u in
      let o : Object rules.one_token names m = object rules.one_token names m (subst (λ (x : Option Macro). is_flat_name rules.one_token names x ≡ true) i.0 (flat_meaning w h.0)) in
      let e : asked m (args_of m behind) ≡ [] = ap (λ (b : List Word). asked m (args_of m b)) i.1 ∙ ap (asked m) (no_args m o.params) ∙ no_asked m in
      let s : EachShape rules [] full inner = each_shape rules (subst (λ (args : List (List Word)). Each rules args full inner) e each) in
      let j = (joined_body rules.one_token m [] []).words in
      let x : List Word = map (painted (set_of v [])) (spaced v.token.space j) ++ work2 in
      let tame : Tame names (map (painted (set_of w [])) (spaced w.token.space j) ++ work) =
      tame_more names _ work (tame_painted names (set_of w []) _ (tame_spaced names w.token.space j o.tame)) h.1 in
      let alike : Alike (map (painted (set_of w [])) (spaced w.token.space j) ++ work) x =
      alike_more _ (map (painted (set_of v [])) (spaced v.token.space j)) work work2
      (subst (λ (set : List (List ℕ)). Alike (map (painted (set_of w [])) (spaced w.token.space j)) (map (painted set) (spaced v.token.space j))) (λ i. a.0.text i ∷ a.0.hide i)
      (alike_spaced (set_of w []) w.token.space v.token.space j)) a.1 in
      let same = made_at_flat rules m w behind work full o i.1 s.0 in
      let q = repeats d x rest2 (subst (λ (ws : List Word). Tame names ws) (sym same) tame) (subst (λ (ws : List Word). Alike ws x) (sym same) alike) in
      let back : x ≡ made_at other m v [] work2 [] = ap (λ (f : List ℕ → Option _). map (painted (set_of v [])) (spaced v.token.space (joined_body f m [] []).words) ++ work2) (sym eo)
      ∙ sym (made_at_flat other m v [] work2 [] o refl refl) in
      record {
        out = q.out;
        notes = invoking v [] ++ ([] ++ (made_notes other m (raws m (args_of m [])) [] ++ q.notes));
        works = invokes v work2 rest2 m [] [] [] q.out rest2 q.notes (turns w v (work2 ++ rest2) (Invokes m []) h.0 a.0 (u ∙ ap (Invokes m) i.1))
            (subst (λ (args : List (List Word)). Each other args [] []) (sym (ap (asked m) (no_args m o.params) ∙ no_asked m)) none)
            (subst (λ (r : List Word). Works other (made_at other m v [] work2 []) r q.out rest2 q.notes) (no_drop work2 rest2)
            (subst (λ (ws : List Word). Works other ws rest2 q.out rest2 q.notes) back q.works));
        counts = both_count v w behind m full inner ns q.notes s.1 q.counts;
      }
  repeats (misfits w work rest behind out left ns t d) [] rest2 h a = absurd a
  repeats (misfits w work rest behind out left ns t d) (v ∷ work2) rest2 h a = absurd (quiet_misfits (meaning rules.macros w) behind (turned w (work ++ rest) (Misfits behind) h.0 t))
  repeats (open_ended w work rest t) [] rest2 h a = absurd a
  repeats (open_ended w work rest t) (v ∷ work2) rest2 h a = absurd (quiet_open (meaning rules.macros w) (turned w (work ++ rest) Open h.0 t))

-- what is too large in one place is so in another
pub large_elsewhere : (rules other : Rules) (names : List (List ℕ)) (t u : PpToken) (behind : List Word) → other.macros ≡ rules.macros → other.one_token ≡ rules.one_token
    → are_flat rules.one_token rules.macros names names ≡ true → contains names t.text ≡ true → is_ident t.kind ≡ is_ident u.kind → t.text ≡ u.text
    → ((out left : List Word) (ns : List Note) → Works other (fresh u ∷ []) behind out left ns → 65535 < replacements ns)
    → (rest out left : List Word) (ns : List Note) → Works rules (fresh t ∷ []) rest out left ns → 65535 < replacements ns
large_elsewhere rules other names t u behind em eo flat k ei et large rest out left ns d =
    let r = repeats rules other names em eo flat d (fresh u ∷ []) behind ((λ e. k), tt) (record { kind = ei; text = et; hide = refl }, tt) in
    let l = large r.out behind r.notes r.works in subst (λ (n : ℕ). 65535 < n) r.counts l

pub large_none : (rules_at : Span → Rules) (large : List (List ℕ)) → large ≡ [] → AreLarge rules_at large
large_none rules_at large e = subst (λ (ns : List (List ℕ)). AreLarge rules_at ns) (sym e) (λ t i k rest out left ns d. let n : ⊥ = cc in absurd n)

either_of : (P : Type 0) (b c d : Bool) → (c ≡ true → (d ≡ true) ⊎ P) → (b || c) ≡ true → ((b || d) ≡ true) ⊎ P
either_of P true c d f k = inl refl
either_of P false c d f k = f k

one_of : (x n : List ℕ) (b : Bool) → same x n ≡ b → (b || false) ≡ true → (false ≡ true) ⊎ (x ≡ n)
one_of x n true e k = inr (same_text x n (sym e))
one_of x n false e k = inl k

contains_last : (xs : List (List ℕ)) (x n : List ℕ) → contains (xs ++ x ∷ []) n ≡ true → (contains xs n ≡ true) ⊎ (x ≡ n)
contains_last [] x n k = one_of x n (same x n) refl k
contains_last (y ∷ xs) x n k = either_of (x ≡ n) (same y n) (contains (xs ++ x ∷ []) n) (contains xs n) (λ h. contains_last xs x n h) k

-- one more name is known to come to too much
pub large_more : (macros : List ℕ → Option Macro) (one_token : List ℕ → Option Kind) (file text : List ℕ) (large large2 : List (List ℕ)) (u : PpToken) (behind : List Word)
    → AreLarge (rules_of macros one_token file text) large → large2 ≡ large ++ u.text ∷ [] → is_ident u.kind ≡ true → IsAlone one_token macros u.text
    → ((out left : List Word) (ns : List Note) → Works (rules_of macros one_token file text u.at) (fresh u ∷ []) behind out left ns → 65535 < replacements ns)
    → AreLarge (rules_of macros one_token file text) large2
large_more macros one_token file text large large2 u behind old e i a big = subst (λ (ns : List (List ℕ)). AreLarge (rules_of macros one_token file text) ns) (sym e)
    (λ t j k rest out left ns d. elim (contains_last large u.text t.text k) [
      | inl h ↦ old t j h rest out left ns d
      | inr s ↦
          large_elsewhere (rules_of macros one_token file text t.at) (rules_of macros one_token file text u.at) a.names t u behind refl refl a.flat
          (subst (λ (n : List ℕ). contains a.names n ≡ true) s a.has) (j ∙ sym i) (sym s) big rest out left ns d
    ])

-- Each run comes to something.
use Rattle.std.proofs.Common.{◌≡◌, ℕ, zero, suc, ◌+◌, ◌-◌, ◌<◌, ◌≤◌, List, [], ◌∷◌, ◌++◌, length, drop, refl, sym, ap, subst, ◌∙◌, arith, ◌⊎◌, inl, inr, length-drop}
use Rattle.cl_base.specs.declared.macros.Macro.{Macro}
use Rattle.cl_base.specs.declared.token.Span.{Span}
use Rattle.cl_macro.specs.Rules.{Rules}
use Rattle.cl_macro.specs.declared.word.Word.{Word}
use Rattle.cl_macro.specs.declared.note.Note.{Note}
use Rattle.cl_macro.specs.declared.note.Told.{Told}
use Rattle.cl_macro.specs.Words.{looks}
use Rattle.cl_macro.specs.Turns.{Turn, Stays, Invokes, Misfits, Open, turn, args_of, set_of, invoking, stay_notes}
use Rattle.cl_macro.specs.Made.{made, made_notes}
use Rattle.cl_macro.specs.Params.{asked, raws}
use Rattle.cl_macro.specs.Replacing.{Works, Each, done, stays, invokes, misfits, open_ended, none, next, Expands, end, whole, large, replacements}
use Rattle.cl_macro.proofs.Shapes.{Staying, Invoked, Misfitting, shape_at, Nexts, each_shape}
use Rattle.cl_macro.proofs.Unique.{one_works, one_each}
use Rattle.cl_macro.proofs.Standing.{looks_zero, stay_zero, replacements_more}
use Rattle.cl_macro.proofs.Proceeding.{invoking_one}
use Rattle.cl_macro.proofs.Faultless.{made_zero}
use Rattle.cl_macro.proofs.Expanding.{left_short, not_large}

module _ (rules : Rules) where
  -- the tokens come to something with at most so many replacements
  pub record Few (n : ℕ) (work rest : List Word) : Type 0 where
    pub out : List Word
    pub left : List Word
    pub notes : List Note
    pub works : Works rules work rest out left notes
    pub few : replacements notes ≤ n

  abbrev pub Many : ℕ → List Word → List Word → Type 0
  Many n work rest = (out left : List Word) (ns : List Note) → Works rules work rest out left ns → n < replacements ns

  abbrev pub Decided : ℕ → List Word → List Word → Type 0
  Decided n work rest = Few n work rest ⊎ Many n work rest

  record EachFew (n : ℕ) (args : List (List Word)) : Type 0 where
    full : List (List Word)
    notes : List Note
    each : Each rules args full notes
    few : replacements notes ≤ n

  abbrev EachMany : ℕ → List (List Word) → Type 0
  EachMany n args = (full : List (List Word)) (ns : List Note) → Each rules args full ns → n < replacements ns

  -- every smaller number is decided
  abbrev Below : ℕ → Type 0
  Below bound = (k : ℕ) → k < bound → (work rest : List Word) → Decided k work rest

  each_more : (n r : ℕ) (a b ns : List Note) → replacements a ≡ r → n - r < replacements b → ns ≡ a ++ b → n < replacements ns
  each_more n r a b ns e h s = let k : replacements ns ≡ replacements a + replacements b = ap replacements s ∙ replacements_more a b in omega arith

  rest_more : (n : ℕ) (a b ns : List Note) → replacements a ≡ 0 → n < replacements b → ns ≡ a ++ b → n < replacements ns
  rest_more n a b ns e h s = let k : replacements ns ≡ replacements a + replacements b = ap replacements s ∙ replacements_more a b in omega arith

  each_first : (n : ℕ) (a b ns : List Note) → n < replacements a → ns ≡ a ++ b → n < replacements ns
  each_first n a b ns h s = let k : replacements ns ≡ replacements a + replacements b = ap replacements s ∙ replacements_more a b in omega arith

  each_by : (bound : ℕ) → Below bound → (args : List (List Word)) (n : ℕ) → n < bound → EachFew n args ⊎ EachMany n args
  each_by bound f [] n h = inl (record { full = []; notes = []; each = none; few = omega arith })
  each_by bound f (arg ∷ args) n h = elim (f n h arg []) [
    | inl s ↦ elim (each_by bound f args (n - replacements s.notes) (omega arith)) [
      | inl t ↦ inl (each_both n arg args s t)
      | inr k ↦ inr (λ full ns e. each_many n arg args s k full ns e)
    ]
    | inr k ↦ inr (λ full ns e. let s : Nexts rules arg args full ns = each_shape rules e in each_first n s.first s.more ns (k s.out [] s.first s.works) s.all)
  ]
    where
      each_both : (n : ℕ) (arg : List Word) (args : List (List Word)) (s : Few n arg []) → EachFew (n - replacements s.notes) args → EachFew n (arg ∷ args)
      each_both n arg args s t = record {
        full = s.out ∷ t.full;
        notes = s.notes ++ t.notes;
        each = next arg s.out args t.full s.notes t.notes (subst (λ (l : List Word). Works rules arg [] s.out l s.notes) (nothing_left s.left (left_short rules s.works)) s.works) t.each;
        few = let k = replacements_more s.notes t.notes in let a = s.few in let b = t.few in omega arith;
      }
        where
          nothing_left : (l : List Word) → length l ≤ 0 → l ≡ []
          nothing_left [] h = refl
          nothing_left (w ∷ ws) h = absurd (omega arith)

      each_many : (n : ℕ) (arg : List Word) (args : List (List Word)) (s : Few n arg []) → EachMany (n - replacements s.notes) args
          → (full : List (List Word)) (ns : List Note) → Each rules (arg ∷ args) full ns → n < replacements ns
      each_many n arg args s k full ns e =
          let t : Nexts rules arg args full ns = each_shape rules e in
          let o = one_works rules s.works t.out [] t.first t.works in
          each_more n (replacements s.notes) t.first t.more ns (sym (ap replacements o.notes)) (k t.outs t.more t.each) t.all

  -- what an invocation counts
  count_of : (w : Word) (behind : List Word) (inner made_so more ns : List Note) → replacements made_so ≡ 0
      → ns ≡ invoking w behind ++ (inner ++ (made_so ++ more)) → replacements ns ≡ 1 + (replacements inner + replacements more)
  count_of w behind inner made_so more ns z e =
      let a = invoking_one w behind in
      let b = replacements_more (invoking w behind) (inner ++ (made_so ++ more)) in
      let c = replacements_more inner (made_so ++ more) in
      let d = replacements_more made_so more in
      let f : replacements ns ≡ replacements (invoking w behind ++ (inner ++ (made_so ++ more))) = ap replacements e in omega arith

  abbrev On : Word → List Word → List Word → Macro → List Word → List (List Word) → List Word
  On w work rest m behind full = made rules m (raws m (args_of m behind)) full w.token.space (set_of w behind) ++ drop (length behind) work

  -- an invocation whose arguments come to something
  invoked_by : (bound n : ℕ) → Below bound → n < bound → (w : Word) (work rest : List Word) (m : Macro) (behind : List Word) → turn rules.macros w (work ++ rest) ≡ Invokes m behind
      → EachFew n (asked m (args_of m behind)) → Decided (suc n) (w ∷ work) rest
  invoked_by bound n f h w work rest m behind e s =
      elim (f (n - replacements s.notes) (omega arith) (On w work rest m behind s.full) (drop (length behind - length work) rest)) [
        | inl t ↦ inl (record {
          out = t.out;
          left = t.left;
          notes = invoking w behind ++ (s.notes ++ (made_notes rules m (raws m (args_of m behind)) s.full ++ t.notes));
          works = invokes w work rest m behind s.full s.notes t.out t.left t.notes e s.each t.works;
          few = let k = count_of w behind s.notes _ t.notes _ (made_zero rules m (raws m (args_of m behind)) s.full) refl in let a = s.few in let b = t.few in omega arith;
        })
        | inr k ↦ inr (λ out left ns d.
            let t : Invoked rules w work rest m behind out left ns = shape_at rules (Invokes m behind) w work rest out left ns e d in
            let p = one_each rules s.each t.full t.inner t.each in
            let q = k out left t.more (subst (λ (full : List (List Word)). Works rules (On w work rest m behind full) (drop (length behind - length work) rest) out left t.more) (sym p.0) t.works) in
            let r : replacements s.notes ≡ replacements t.inner = ap replacements p.1 in
            let c = count_of w behind t.inner _ t.more ns (made_zero rules m (raws m (args_of m behind)) t.full) t.all in omega arith)
      ]

  by_turn : (bound n : ℕ) → Below bound → n ≤ bound → (w : Word) (work rest : List Word)
      → ((work2 rest2 : List Word) → length work2 ≤ length work → Decided n work2 rest2)
      → (t : Turn) → turn rules.macros w (work ++ rest) ≡ t → Decided n (w ∷ work) rest
  by_turn bound n f h w work rest g Stays e = elim (g work rest (omega arith)) [
    | inl s ↦ inl (record {
      out = w ∷ s.out;
      left = s.left;
      notes = looks w ++ s.notes;
      works = stays w work rest s.out s.left s.notes e s.works;
      few = let k = replacements_more (looks w) s.notes in let z = looks_zero w in let a = s.few in omega arith;
    })
    | inr k ↦ inr (λ out left ns d. let s : Staying rules w work rest out left ns = shape_at rules Stays w work rest out left ns e d in
        rest_more n (looks w) s.more ns (looks_zero w) (k s.later left s.more s.works) s.all)
  ]
  by_turn bound n f h w work rest g (Misfits behind) e =
      elim (g (drop (length behind) work) (drop (length behind - length work) rest) (let l = length-drop (length behind) work in omega arith)) [
        | inl s ↦ inl (record {
          out = w ∷ (behind ++ s.out);
          left = s.left;
          notes = stay_notes 19 w behind ++ s.notes;
          works = misfits w work rest behind s.out s.left s.notes e s.works;
          few = let k = replacements_more (stay_notes 19 w behind) s.notes in let z = stay_zero 19 w behind in let a = s.few in omega arith;
        })
        | inr k ↦ inr (λ out left ns d. let s : Misfitting rules w work rest behind out left ns = shape_at rules (Misfits behind) w work rest out left ns e d in
            rest_more n (stay_notes 19 w behind) s.more ns (stay_zero 19 w behind) (k s.later left s.more s.works) s.all)
      ]
  by_turn bound n f h w work rest g Open e = inl (record {
    out = w ∷ (work ++ rest);
    left = [];
    notes = stay_notes 20 w (work ++ rest);
    works = open_ended w work rest e;
    few = let z = stay_zero 20 w (work ++ rest) in omega arith;
  })
  by_turn bound zero f h w work rest g (Invokes m behind) e = inr (λ out left ns d.
      let t : Invoked rules w work rest m behind out left ns = shape_at rules (Invokes m behind) w work rest out left ns e d in
      let c = count_of w behind t.inner _ t.more ns (made_zero rules m (raws m (args_of m behind)) t.full) t.all in omega arith)
  by_turn bound (suc n) f h w work rest g (Invokes m behind) e = elim (each_by bound f (asked m (args_of m behind)) n (omega arith)) [
    | inl s ↦ invoked_by bound n f (omega arith) w work rest m behind e s
    | inr k ↦ inr (λ out left ns d.
        let t : Invoked rules w work rest m behind out left ns = shape_at rules (Invokes m behind) w work rest out left ns e d in
        let q = k t.full t.inner t.each in
        let c = count_of w behind t.inner _ t.more ns (made_zero rules m (raws m (args_of m behind)) t.full) t.all in omega arith)
  ]

  decided : (bound : ℕ) → Below bound → (len n : ℕ) → n ≤ bound → (work rest : List Word) → length work ≤ len → Decided n work rest
  decided bound f len n h [] rest l = inl (record { out = []; left = rest; notes = []; works = done rest; few = omega arith })
  decided bound f zero n h (w ∷ work) rest l = absurd (omega arith)
  decided bound f (suc len) n h (w ∷ work) rest l =
      by_turn bound n f h w work rest (λ work2 rest2 s. decided bound f len n h work2 rest2 (omega arith)) (turn rules.macros w (work ++ rest)) refl

  below : (bound : ℕ) → Below bound
  below zero k h work rest = absurd (omega arith)
  below (suc bound) k h work rest = decided bound (below bound) (length work) k (omega arith) work rest (omega arith)

  pub decides : (n : ℕ) (work rest : List Word) → Decided n work rest
  decides n work rest = below (suc n) n (omega arith) work rest

module _ (rules_at : Span → Rules) where
  some_run : (len before : ℕ) (run : List Word) → length run ≤ len → (words : List Word) × (ts : List Told) × Expands rules_at before run words ts
  some_run len before [] h = ([], [], end before)
  some_run zero before (w ∷ rest) h = absurd (omega arith)
  some_run (suc len) before (w ∷ rest) h = elim (decides (rules_at w.token.at) 65535 (w ∷ []) rest) [
    | inl s ↦ let l = left_short (rules_at w.token.at) s.works in
        let r = some_run len (before + length s.out) s.left (omega arith) in
        (_, _, whole before w rest s.out s.left r.0 s.notes r.1 s.works s.few r.2)
    | inr k ↦ let i = not_large (rules_at w.token.at) w rest k (turn (rules_at w.token.at).macros w rest) refl in
        let l = length-drop (length i.1) rest in
        let r = some_run len (before + length (w ∷ i.1)) (drop (length i.1) rest) (omega arith) in
        (_, _, large before w rest i.1 i.0 r.0 r.1 i.2 k r.2)
  ]

  pub some_expansion : (before : ℕ) (run : List Word) → (words : List Word) × (ts : List Told) × Expands rules_at before run words ts
  some_expansion before run = some_run (length run) before run (omega arith)

-- What tokens come to is one.
use Rattle.std.proofs.Common.{◌≡◌, ℕ, ◌<◌, ◌≤◌, ◌+◌, List, [], ◌∷◌, ◌++◌, length, drop, ◌-◌, refl, sym, ap, subst, ◌∙◌, arith, ◌⊎◌, inl, inr}
use Rattle.cl_base.specs.declared.macros.Macro.{Macro}
use Rattle.cl_macro.specs.Rules.{Rules}
use Rattle.cl_macro.specs.declared.word.Word.{Word}
use Rattle.cl_macro.specs.declared.note.Note.{Note}
use Rattle.cl_macro.specs.declared.note.Told.{Told}
use Rattle.cl_base.specs.declared.token.Span.{Span}
use Rattle.cl_macro.specs.Words.{looks}
use Rattle.cl_macro.specs.Turns.{Turn, Stays, Invokes, Misfits, Open, turn, args_of, set_of, invoking, stay_notes}
use Rattle.cl_macro.specs.Made.{made, made_notes}
use Rattle.cl_macro.specs.Params.{raws}
use Rattle.cl_macro.specs.Replacing.{Works, Each, done, stays, invokes, misfits, open_ended, none, next, Expands, end, whole, large, replacements, settled, span_of, all_told}
use Rattle.cl_macro.proofs.Shapes.{Staying, Invoked, Misfitting, Opening, Nothing, shape, shape_at, Nexts, each_shape}

pub record Same (out left : List Word) (ns : List Note) (out2 left2 : List Word) (ns2 : List Note) : Type 0 where
  pub words : out ≡ out2
  pub rest : left ≡ left2
  pub notes : ns ≡ ns2

module _ (rules : Rules) where
  mutual
    pub one_works : {work rest out left : List Word} {ns : List Note} → Works rules work rest out left ns
        → (out2 left2 : List Word) (ns2 : List Note) → Works rules work rest out2 left2 ns2 → Same out left ns out2 left2 ns2
    one_works (done rest) out2 left2 ns2 d = let s : Nothing rules rest out2 left2 ns2 = shape rules d in
        record { words = sym s.words; rest = sym s.all; notes = sym s.notes }
    one_works (stays w work rest out left ns t d) out2 left2 ns2 e =
        let s : Staying rules w work rest out2 left2 ns2 = shape_at rules Stays w work rest out2 left2 ns2 t e in
        let o = one_works d s.later left2 s.more s.works in
        record { words = ap (λ xs. w ∷ xs) o.words ∙ sym s.words; rest = o.rest; notes = ap (λ xs. looks w ++ xs) o.notes ∙ sym s.all }
    one_works (invokes w work rest m behind full inner out left ns t a d) out2 left2 ns2 e =
        let s : Invoked rules w work rest m behind out2 left2 ns2 = shape_at rules (Invokes m behind) w work rest out2 left2 ns2 t e in
        let p = one_each a s.full s.inner s.each in
        let o = one_works d out2 left2 s.more
        (subst (λ (f : List (List Word)). Works rules (made rules m (raws m (args_of m behind)) f w.token.space (set_of w behind) ++ drop (length behind) work) (drop (length behind - length work) rest) out2 left2 s.more) (sym p.0) s.works) in
        record {
          words = o.words;
          rest = o.rest;
          notes = (λ i. invoking w behind ++ (p.1 i ++ (made_notes rules m (raws m (args_of m behind)) (p.0 i) ++ o.notes i))) ∙ sym s.all;
        }
    one_works (misfits w work rest behind out left ns t d) out2 left2 ns2 e =
        let s : Misfitting rules w work rest behind out2 left2 ns2 = shape_at rules (Misfits behind) w work rest out2 left2 ns2 t e in
        let o = one_works d s.later left2 s.more s.works in
        record { words = ap (λ xs. w ∷ (behind ++ xs)) o.words ∙ sym s.words; rest = o.rest; notes = ap (λ xs. stay_notes 19 w behind ++ xs) o.notes ∙ sym s.all }
    one_works (open_ended w work rest t) out2 left2 ns2 e =
        let s : Opening rules w work rest out2 left2 ns2 = shape_at rules Open w work rest out2 left2 ns2 t e in
        record { words = sym s.words; rest = sym s.none; notes = sym s.all }

    pub one_each : {args full : List (List Word)} {ns : List Note} → Each rules args full ns
        → (full2 : List (List Word)) (ns2 : List Note) → Each rules args full2 ns2 → (full ≡ full2) × (ns ≡ ns2)
    one_each none full2 ns2 e = let s : (full2 ≡ []) × (ns2 ≡ []) = each_shape rules e in (sym s.0, sym s.1)
    one_each (next arg out args outs ns ms d a) full2 ns2 e =
        let s : Nexts rules arg args full2 ns2 = each_shape rules e in
        let o = one_works d s.out [] s.first s.works in
        let p = one_each a s.outs s.more s.each in
        ((λ i. o.words i ∷ p.0 i) ∙ sym s.words, (λ i. o.notes i ++ p.1 i) ∙ sym s.all)

module _ (rules_at : Span → Rules) where
  -- what a run's first token comes to
  record Wholly (before : ℕ) (w : Word) (rest total : List Word) (ts : List Told) : Type 0 where
    out : List Word
    left : List Word
    more : List Word
    first : List Note
    later : List Told
    works : Works (rules_at w.token.at) (w ∷ []) rest out left first
    small : replacements first ≤ 65535
    goes : Expands rules_at (before + length out) left more later
    words : total ≡ settled w first out ++ more
    all : ts ≡ all_told before (span_of w first) first ++ later

  record Largely (before : ℕ) (w : Word) (rest total : List Word) (ts : List Told) : Type 0 where
    behind : List Word
    m : Macro
    more : List Word
    later : List Told
    turns : turn (rules_at w.token.at).macros w rest ≡ Invokes m behind
    big : (out left : List Word) (n : List Note) → Works (rules_at w.token.at) (w ∷ []) rest out left n → 65535 < replacements n
    goes : Expands rules_at (before + length (w ∷ behind)) (drop (length behind) rest) more later
    words : total ≡ w ∷ (behind ++ more)
    all : ts ≡ all_told before w.token.at (stay_notes 17 w behind) ++ later

  abbrev RunShape : ℕ → List Word → List Word → List Told → Type 0
  RunShape before [] total ts = (total ≡ []) × (ts ≡ [])
  RunShape before (w ∷ rest) total ts = Wholly before w rest total ts ⊎ Largely before w rest total ts

  run_shape : {before : ℕ} {run total : List Word} {ts : List Told} → Expands rules_at before run total ts → RunShape before run total ts
  run_shape (end before) = (refl, refl)
  run_shape (whole before w rest out left more ns ts d k g) =
      inl (record { out = out; left = left; more = more; first = ns; later = ts; works = d; small = k; goes = g; words = refl; all = refl })
  run_shape (large before w rest behind m more ts t k g) =
      inr (record { behind = behind; m = m; more = more; later = ts; turns = t; big = k; goes = g; words = refl; all = refl })

  too_small : {A : Type 0} (n : ℕ) → n ≤ 65535 → 65535 < n → A
  too_small n a b = absurd (omega arith)

  behind_of : Turn → List Word
  behind_of Stays = []
  behind_of (Invokes m behind) = behind
  behind_of (Misfits behind) = behind
  behind_of Open = []

  same_behind : (t : Turn) (m m2 : Macro) (b b2 : List Word) → t ≡ Invokes m b → t ≡ Invokes m2 b2 → b ≡ b2
  same_behind t m m2 b b2 e f = cc

  pub one_expansion : {before : ℕ} {run total : List Word} {ts : List Told} → Expands rules_at before run total ts
      → (total2 : List Word) (ts2 : List Told) → Expands rules_at before run total2 ts2 → (total ≡ total2) × (ts ≡ ts2)
  one_expansion (end before) total2 ts2 e = let s : (total2 ≡ []) × (ts2 ≡ []) = run_shape e in (sym s.0, sym s.1)
  one_expansion (whole before w rest out left more ns ts d k g) total2 ts2 e = elim (run_shape e) [
    | inl s ↦ let o = one_works (rules_at w.token.at) d s.out s.left s.first s.works in
        let p = one_expansion g s.more s.later
        (subst (λ (l : List Word). Expands rules_at (before + length out) l s.more s.later) (sym o.rest)
        (subst (λ (x : List Word). Expands rules_at (before + length x) s.left s.more s.later) (sym o.words) s.goes)) in
        ((λ i. settled w (o.notes i) (o.words i) ++ p.0 i) ∙ sym s.words, (λ i. all_told before (span_of w (o.notes i)) (o.notes i) ++ p.1 i) ∙ sym s.all)
    | inr s ↦ too_small (replacements ns) k (s.big out left ns d)
  ]
  one_expansion (large before w rest behind m more ts t k g) total2 ts2 e = elim (run_shape e) [
    | inl s ↦ too_small (replacements s.first) s.small (k s.out s.left s.first s.works)
    | inr s ↦ let b : behind ≡ s.behind = same_behind _ m s.m behind s.behind t s.turns in
        let p = one_expansion g s.more s.later (subst (λ (b2 : List Word). Expands rules_at (before + length (w ∷ b2)) (drop (length b2) rest) s.more s.later) (sym b) s.goes) in
        ((λ i. w ∷ (b i ++ p.0 i)) ∙ sym s.words, (λ i. all_told before w.token.at (stay_notes 17 w (b i)) ++ p.1 i) ∙ sym s.all)
  ]

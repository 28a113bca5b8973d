-- The tokens of an item, one after the other.
use Rattle.std.proofs.Common.{◌≡◌, ℕ, suc, ◌+◌, ◌-◌, ◌<◌, List, [], ◌∷◌, ◌++◌, sym, ap, ◌∙◌, arith, length, take, drop, get_or, append-nil}
use Rattle.std.proofs.lemmas.List.{drop_more}
use Rattle.std.specs.Prelude.{slice_range}
use Rattle.cl_base.specs.declared.answer.Symbol.{Symbol}
use Rattle.cl_base.specs.declared.token.PpToken.{PpToken}

-- the first token of a range, and the others
pub range_more : (tokens : List PpToken) (at to : ℕ) (d : PpToken) → at < length tokens → at < to → slice_range tokens at to ≡ get_or tokens at d ∷ slice_range tokens (at + 1) to
range_more tokens at to d l m =
    let n : to - at ≡ suc (to - (at + 1)) = omega arith in
    ap (λ (k : ℕ). take k (drop at tokens)) n ∙ ap (take (suc (to - (at + 1)))) (drop_more tokens at d l)

pub none_more : (xs ys : List Symbol) → ys ≡ [] → xs ≡ xs ++ ys
none_more xs ys e = sym (ap (λ (zs : List Symbol). xs ++ zs) e ∙ append-nil xs)

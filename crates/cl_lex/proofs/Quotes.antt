-- Which characters a backslash takes, one character further.
use Rattle.std.proofs.Common.{◌≡◌, ℕ, suc, ◌+◌, ◌-◌, ◌≤◌, ◌&&◌, ◌==◌, List, not, false, arith, refl, slice_index}
use Rattle.cl_lex.specs.Spelling.{is_escaped}

pub escaped_none : (cs : List ℕ) (from : ℕ) → false ≡ is_escaped cs from (from - from)
unfolding is_escaped
escaped_none cs from = let e : from - from ≡ 0 = omega arith in rw e refl

pub escaped_more : (cs : List ℕ) (from at : ℕ) → from ≤ at
    → is_escaped cs from (at + 1 - from) ≡ (slice_index cs at == 92 && not (is_escaped cs from (at - from)))
unfolding is_escaped
escaped_more cs from at low =
    let more : at + 1 - from ≡ suc (at - from) = omega arith in
    let here : from + (at - from) ≡ at = omega arith in
    rw (more, here) refl

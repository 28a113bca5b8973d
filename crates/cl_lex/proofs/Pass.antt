-- One character more of those that something holds of.
use Rattle.std.proofs.Common.{◌≡◌, ◌⊎◌, ℕ, ◌+◌, ◌<◌, ◌≤◌, arith, inl, inr, subst, sym}

pub one_more : (P : ℕ → Type 0) (from at : ℕ) → ((i : ℕ) → from ≤ i → i < at → P i) → P at → (i : ℕ) → from ≤ i → i < at + 1 → P i
one_more P from at before here i low high = go (order i at high)
  where
    order : (x y : ℕ) → x < y + 1 → (x < y) ⊎ (x ≡ y)
    order x y l = grind arith

    go : (i < at) ⊎ (i ≡ at) → P i
    go (inl l) = before i low l
    go (inr e) = subst P (sym e) here

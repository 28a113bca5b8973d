-- How far a bad item goes, from token to token.
use Rattle.std.proofs.Common.{◌≡◌, ℕ, suc, ◌+◌, ◌<◌, ◌≤◌, List, arith, refl, Bool, true, false}
use Rattle.std.specs.Prelude.{slice_get, nat_lt, codes}
use Rattle.std.proofs.lemmas.Bool.{ltb-true}
use Rattle.cl_base.specs.declared.token.PpToken.{PpToken}
use Rattle.cl_tree.specs.Brackets.{bad_from, spells_at, brace_at, partner_by}

module _ (ts : List PpToken) (pairs : List ℕ) (n at end : ℕ) (more : nat_lt at end ≡ true) (plain : spells_at ts at (codes ";") ≡ false) where
  pub past_pair : nat_lt at (partner_by (slice_get pairs at)) ≡ true → brace_at ts at ≡ false → bad_from ts pairs (suc n) at end ≡ bad_from ts pairs n (partner_by (slice_get pairs at) + 1) end
  unfolding bad_from
  past_pair a b = rw (more, plain, a, b) refl

  pub past_token : nat_lt at (partner_by (slice_get pairs at)) ≡ false → bad_from ts pairs (suc n) at end ≡ bad_from ts pairs n (at + 1) end
  unfolding bad_from
  past_token a = rw (more, plain, a) refl

pub not_less : (a b : ℕ) → b ≤ a → nat_lt a b ≡ false
not_less a b f = go (nat_lt a b) refl
  where
    go : (v : Bool) → nat_lt a b ≡ v → nat_lt a b ≡ false
    go true e = (let l : a < b = ltb-true a b e in absurd (omega arith))
    go false e = e

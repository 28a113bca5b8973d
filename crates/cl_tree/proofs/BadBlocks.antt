-- How far what is no item of a block goes, from token to token.
use Rattle.std.proofs.Common.{◌≡◌, ℕ, suc, ◌+◌, List, refl, true, false, length}
use Rattle.std.specs.Prelude.{slice_get, nat_lt, codes}
use Rattle.cl_tree.specs.declared.lexeme.Lexeme.{Lexeme}
use Rattle.cl_tree.specs.BadItems.{bad_to, spelled_at, opens_at, closes_at, partner_of}

module _ (ts : List Lexeme) (n at : ℕ) (more : nat_lt at (length ts) ≡ true) (plain : spelled_at ts at (codes ";") ≡ false) (inside : closes_at ts at ≡ false) where
  pub past_pair : nat_lt at (partner_of (slice_get ts at)) ≡ true → opens_at ts at ≡ false → bad_to ts (suc n) at ≡ bad_to ts n (partner_of (slice_get ts at) + 1)
  unfolding bad_to
  past_pair a b = rw (more, plain, inside, a, b) refl

  pub past_token : nat_lt at (partner_of (slice_get ts at)) ≡ false → bad_to ts (suc n) at ≡ bad_to ts n (at + 1)
  unfolding bad_to
  past_token a = rw (more, plain, inside, a) refl

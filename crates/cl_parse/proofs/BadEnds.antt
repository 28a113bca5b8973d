-- How far a bad item goes.
use Rattle.std.proofs.Common.{◌≡◌, ℕ, zero, suc, ◌+◌, ◌-◌, ◌<◌, ◌≤◌, Bool, true, false, List, inl, inr, refl, subst, arith}
use Rattle.std.specs.Prelude.{nat_lt}
use Rattle.std.proofs.lemmas.Bool.{ltb-true}
use Rattle.cl_base.specs.declared.token.PpToken.{PpToken}
use Rattle.cl_tree.specs.Brackets.{bad_extent, bad_from, brace_at}
use Rattle.cl_parse.specs.Extents.{AtDepth, after, is_semicolon, past, partner}
use Rattle.cl_parse.specs.code.Marks.{Ends}
use Rattle.cl_parse.proofs.Depths.{after_more, goes_past}

-- where the walk ends that tells how far a bad item goes: at no token behind, or past one at the depth of the first
pub data BadEnd (tokens : List PpToken) (pairs : List ℕ) (from end : ℕ) : ℕ → Type 0 where
  no_more : BadEnd tokens pairs from end end
  semicolon : (i : ℕ) → AtDepth pairs from i → i < end → is_semicolon tokens i ≡ true → BadEnd tokens pairs from end (i + 1)
  group : (i : ℕ) → AtDepth pairs from i → i < end → brace_at tokens i ≡ true → i < partner pairs i → partner pairs i < end → BadEnd tokens pairs from end (partner pairs i + 1)

module _ (tokens : List PpToken) (pairs : List ℕ) (from end : ℕ) where
  step : (n at : ℕ) → AtDepth pairs from at → ((next : ℕ) → AtDepth pairs from next → BadEnd tokens pairs from end (bad_from tokens pairs n next end)) → (a b c e f : Bool) → nat_lt at end ≡ a
      → is_semicolon tokens at ≡ b → nat_lt at (partner pairs at) ≡ c → brace_at tokens at ≡ e → nat_lt (partner pairs at) end ≡ f → BadEnd tokens pairs from end (bad_from tokens pairs (suc n) at end)
  unfolding bad_from
  step n at d more false b c e f x y z v w = rw x no_more
  step n at d more true true c e f x y z v w = rw (x, y) (semicolon at d (ltb-true at end x) y)
  step n at d more true false false e f x y z v w =
      let p : past pairs at ≡ at + 1 = rw z refl in
      rw (x, y, z) (more (at + 1) (subst (AtDepth pairs from) p (goes_past pairs from at d)))
  step n at d more true false true false f x y z v w =
      let p : past pairs at ≡ partner pairs at + 1 = rw z refl in
      rw (x, y, z, v) (more (partner pairs at + 1) (subst (AtDepth pairs from) p (goes_past pairs from at d)))
  step n at d more true false true true true x y z v w = rw (x, y, z, v, w) (group at d (ltb-true at end x) v (ltb-true at (partner pairs at) z) (ltb-true (partner pairs at) end w))
  step n at d more true false true true false x y z v w = rw (x, y, z, v, w) no_more

  walk : (n at : ℕ) → AtDepth pairs from at → BadEnd tokens pairs from end (bad_from tokens pairs n at end)
  unfolding bad_from
  walk zero at d = no_more
  walk (suc n) at d = step n at d (walk n) (nat_lt at end) (is_semicolon tokens at) (nat_lt at (partner pairs at)) (brace_at tokens at) (nat_lt (partner pairs at) end) refl refl refl refl refl

  pub bad_end : BadEnd tokens pairs from end (bad_extent tokens pairs from end)
  bad_end = walk (end - from) from (0, refl)

pub record Passes (from to end : ℕ) : Type 0 where
  pub more : from < to
  pub within : to ≤ end

pub bad_bounds : (tokens : List PpToken) (pairs : List ℕ) (from end to : ℕ) → from < end → BadEnd tokens pairs from end to → Passes from to end
bad_bounds tokens pairs from end to l no_more = record { more = l; within = omega arith }
bad_bounds tokens pairs from end to l (semicolon i (n, e) k s) = let h : n + from ≤ after pairs n from = after_more pairs n from in record { more = omega arith; within = omega arith }
bad_bounds tokens pairs from end to l (group i (n, e) k b m p) = let h : n + from ≤ after pairs n from = after_more pairs n from in record { more = omega arith; within = omega arith }

pub bad_reaches : (tokens : List PpToken) (pairs : List ℕ) (from end to : ℕ) → BadEnd tokens pairs from end to → Ends pairs end from to
bad_reaches tokens pairs from end to no_more l = inl refl
bad_reaches tokens pairs from end to (semicolon i d k s) l =
    let e : (i + 1) - 1 ≡ i = omega arith in
    let m : partner pairs i < i + 1 = subst (λ (n : ℕ). partner pairs n < i + 1) e l in
    let p : past pairs i ≡ i + 1 = grind arith in
    inr (subst (AtDepth pairs from) p (goes_past pairs from i d))
bad_reaches tokens pairs from end to (group i d k b m q) l =
    let p : past pairs i ≡ partner pairs i + 1 = grind arith in
    inr (subst (AtDepth pairs from) p (goes_past pairs from i d))

-- How far the items go that begin with a token.
use Rattle.std.specs.Prelude.{Bool}
use Rattle.std.proofs.Common.{◌≡◌, ◌⊎◌, ℕ, ◌<◌, ◌≤◌, ◌+◌, true, false, List, ⊎_elim, inl, inr, refl, sym, ◌∙◌, subst, arith, length}
use Rattle.std.proofs.lemmas.Bool.{both_ways, cases_lt}
use Rattle.cl_base.specs.declared.token.PpToken.{PpToken}
use Rattle.cl_parse.specs.Extents.{Extent, NoEqual, after, begins_body, is_semicolon, past_stop, partner}
use Rattle.cl_parse.proofs.Depths.{after_more}

pub record Within (from to end : ℕ) : Type 0 where
  pub more : from < to
  pub within : to ≤ end

pub body_ahead : (tokens : List PpToken) (pairs : List ℕ) (i : ℕ) → begins_body tokens pairs i ≡ true → i < partner pairs i
unfolding begins_body
body_ahead tokens pairs i e = grind arith

stop_bounds : (tokens : List PpToken) (pairs : List ℕ) (i : ℕ) (b : Bool) → i < length tokens → is_semicolon tokens i ≡ b → (b ≡ false → i < partner pairs i) → Within i (past_stop tokens pairs i) (length tokens)
stop_bounds tokens pairs i true l e f = record { more = grind arith; within = grind arith }
stop_bounds tokens pairs i false l e f = let m : i < partner pairs i = f refl in record { more = grind arith; within = grind arith }

-- an external item goes past its first token, and not past the end
pub extent_bounds : (tokens : List PpToken) (pairs : List ℕ) (from to : ℕ) → from < length tokens → Extent tokens pairs from to → Within from to (length tokens)
extent_bounds tokens pairs from to l e =
    ⊎_elim
    (λ (k : e.last < length tokens). (
    let s = e.stops k in
    let least : s.0.0 + from ≤ after pairs s.0.0 from = after_more pairs s.0.0 from in
    let far : from ≤ e.last = subst (λ (i : ℕ). from ≤ i) s.0.1 (omega arith) in
    let b = stop_bounds tokens pairs e.last (is_semicolon tokens e.last) k refl (body_of s.1) in
    let more : e.last < past_stop tokens pairs e.last = b.more in
    let within : past_stop tokens pairs e.last ≤ length tokens = b.within in
    subst (λ (i : ℕ). Within from i (length tokens)) (sym e.end) (record { more = omega arith; within = within })))
    (λ (k : length tokens ≤ e.last). (
    let w : e.last ≤ length tokens = e.within in
    let same : length tokens ≡ e.last = omega arith in
    let far : past_stop tokens pairs e.last ≡ length tokens = subst (λ (i : ℕ). past_stop tokens pairs i ≡ length tokens) same (grind arith) in
    subst (λ (i : ℕ). Within from i (length tokens)) (sym (e.end ∙ far)) (record { more = l; within = omega arith })))
    (cases_lt e.last (length tokens))
  where
    body_of : (is_semicolon tokens e.last ≡ true) ⊎ ((begins_body tokens pairs e.last ≡ true) × NoEqual tokens pairs from e.last) → is_semicolon tokens e.last ≡ false → e.last < partner pairs e.last
    body_of (inl s) f = absurd (both_ways (is_semicolon tokens e.last) f s)
    body_of (inr b) f = body_ahead tokens pairs e.last b.0

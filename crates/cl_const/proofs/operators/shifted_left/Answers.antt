use Rattle.std.proofs.Common.{◌≡◌, ℕ, ℤ, ◌%◌, ◌*◌, ◌^◌, ◌<◌, ◌*ℤ◌, pos, to_z, of_z, subst, ap, ◌∙◌, arith, SomeIff}
use Rattle.std.specs.Int.{w64}
use Rattle.std.specs.Int.RustNames.{FitsSigned}
use Rattle.std.proofs.lemmas.Nat.{shl_whole, pow_below}
use Rattle.std.proofs.lemmas.Int.{to_z_pos, to_z-of_z}
use Rattle.cl_const.proofs.operators.shifted_left.Goals as goal

power : (k : ℕ) → k < 63 → 1 * 2 ^ k % 18446744073709551616 ≡ 2 ^ k
power k l = shl_whole 1 1 k 64 (omega arith) (omega arith) ∙ omega arith

pub overflow_cast-count-then-count-lt63 : goal.overflow_cast-count-then-count-lt63
overflow_cast-count-then-count-lt63 c =
    let l = pow_below c.args.count 63 c.if-count-lt63.true in
    rw (power c.args.count c.if-count-lt63.true) (record { sfits = l })

pub returns-then-count-lt63 : goal.returns-then-count-lt63
returns-then-count-lt63 c =
    let k : c.args.count < 63 = c.if-count-lt63.true in
    let v : ℤ = to_z w64 (of_z w64 c.args.value) in
    let e : v ≡ c.args.value = to_z-of_z w64 c.args.value c.ranges.value in
    let f : to_z w64 (1 * 2 ^ c.args.count % 18446744073709551616) ≡ pos (2 ^ c.args.count) = ap (to_z w64) (power c.args.count k) ∙ to_z_pos w64 (2 ^ c.args.count) (pow_below c.args.count 63 k) in
    subst (λ (x : ℤ). SomeIff c.checked_mul.result (FitsSigned w64 (x *ℤ pos (2 ^ c.args.count))) (x *ℤ pos (2 ^ c.args.count))) e
    (subst (λ (y : ℤ). SomeIff c.checked_mul.result (FitsSigned w64 (v *ℤ y)) (v *ℤ y)) f c.checked_mul.ensures)

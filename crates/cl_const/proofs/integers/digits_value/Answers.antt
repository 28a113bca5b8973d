use Rattle.std.proofs.Common.{◌≤◌, ◌<◌, ◌+◌, ◌*◌, ℕ, length, get_or, subst, arith}
use Rattle.cl_const.specs.Integers.{digit, radix}
use Rattle.cl_const.proofs.Digits.{digits_grow}
use Rattle.cl_const.proofs.integers.digits_value.Goals as goal

pub returns-in-None : goal.returns-in-None
returns-in-None c =
    let l : c.loop-byte.byte-index < length c.args.digits.now = omega arith in
    digits_grow c.args.base c.args.digits.now c.loop-byte.byte-index 0 18446744073709551616 l
    (subst (λ (n : ℕ). 18446744073709551616 ≤ n * radix c.args.base + digit (get_or c.args.digits.now c.loop-byte.byte-index 0)) c.loop-byte.invariant c.in-None.ensures)

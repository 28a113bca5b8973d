use Rattle.std.proofs.Common.{◌≤◌, refl, arith, length}
use Rattle.cl_parse.proofs.parse.failing.Goals as goal

pub returns-then-before : goal.returns-then-before
returns-then-before c = λ less. (
    let far : c.args.to ≤ length c.args.reading.now.ahead.items = omega (arith, c.len.ensures, c.if-to-len.false) in
    (refl, far, (rw c.as_slice.ensures.value at c.in_ok-before.ensures) c.if-before.true))

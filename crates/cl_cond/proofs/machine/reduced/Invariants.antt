use Rattle.std.proofs.Common.{◌≡◌, length}
use Rattle.std.specs.Prelude.{reverse}
use Rattle.cl_cond.specs.code.Machine.{reduce}
use Rattle.cl_cond.proofs.machine.reduced.Given as goal

abbrev pub invariant-loop-frame : goal.invariant-loop-frame
invariant-loop-frame l = reduce l.least (reverse l.stack) l.outcome ≡ reduce l.least (reverse l.fn.stack) l.fn.operand

abbrev pub decreases-loop-frame : goal.decreases-loop-frame
decreases-loop-frame l = length l.stack

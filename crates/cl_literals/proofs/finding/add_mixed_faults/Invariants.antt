use Rattle.std.proofs.Common.{◌≡◌, ◌++◌, length}
use Rattle.cl_literals.specs.Faults.{mixed_faults}
use Rattle.cl_literals.proofs.finding.add_mixed_faults.Given as goal

abbrev pub invariant-loop-token : goal.invariant-loop-token
invariant-loop-token l = l.found ++ mixed_faults l.prefix l.rest ≡ l.fn.found ++ mixed_faults l.prefix l.tokens

abbrev pub decreases-loop-token : goal.decreases-loop-token
decreases-loop-token l = length l.rest

use Rattle.std.proofs.Common.{◌≡◌, ◌++◌, length}
use Rattle.cl_literals.specs.Faults.{escape_faults}
use Rattle.cl_literals.proofs.finding.add_escape_faults.Given as goal

abbrev pub invariant-loop-token : goal.invariant-loop-token
invariant-loop-token l = l.found ++ escape_faults l.unit l.rest ≡ l.fn.found ++ escape_faults l.unit l.tokens

abbrev pub decreases-loop-token : goal.decreases-loop-token
decreases-loop-token l = length l.rest

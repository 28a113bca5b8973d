use Rattle.std.proofs.Common.{◌≡◌, ◌+◌, length}
use Rattle.cl_literals.specs.Faults.{elements}
use Rattle.cl_literals.proofs.finding.elements.Given as goal

abbrev pub invariant-loop-token : goal.invariant-loop-token
invariant-loop-token l = l.total + elements l.unit l.rest ≡ elements l.unit l.tokens

abbrev pub decreases-loop-token : goal.decreases-loop-token
decreases-loop-token l = length l.rest

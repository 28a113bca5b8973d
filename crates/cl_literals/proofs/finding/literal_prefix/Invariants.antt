use Rattle.std.proofs.Common.{◌≡◌, length}
use Rattle.cl_literals.specs.Faults.{literal_prefix}
use Rattle.cl_literals.proofs.finding.literal_prefix.Given as goal

abbrev pub invariant-loop-token : goal.invariant-loop-token
invariant-loop-token l = literal_prefix l.tokens ≡ literal_prefix l.rest

abbrev pub decreases-loop-token : goal.decreases-loop-token
decreases-loop-token l = length l.rest

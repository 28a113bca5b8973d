use Rattle.std.proofs.Common.{◌≡◌, [], length}
use Rattle.cl_pp.specs.Including.{closed}
use Rattle.cl_pp.proofs.include.closed.Given as goal

abbrev pub invariant-loop-token : goal.invariant-loop-token
invariant-loop-token l = closed [] l.tokens ≡ closed l.text.items l.rest

abbrev pub decreases-loop-token : goal.decreases-loop-token
decreases-loop-token l = length l.rest

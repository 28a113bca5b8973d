use Rattle.std.proofs.Common.{◌≡◌, ◌++◌, length}
use Rattle.cl_pp.specs.code.Deciding.{asked_from}
use Rattle.cl_pp.proofs.defined.asked.Given as goal

abbrev pub invariant-loop-token : goal.invariant-loop-token
invariant-loop-token l = asked_from 0 l.tokens ≡ l.names ++ asked_from 0 l.rest

abbrev pub decreases-loop-token : goal.decreases-loop-token
decreases-loop-token l = length l.rest

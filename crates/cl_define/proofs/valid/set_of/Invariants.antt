use Rattle.std.proofs.Common.{length}
use Rattle.cl_define.specs.code.Sets.{Gathered}
use Rattle.cl_define.proofs.valid.set_of.Given as goal

abbrev pub invariant-loop-name : goal.invariant-loop-name
invariant-loop-name l = Gathered l.names l.rest l.set

abbrev pub decreases-loop-name : goal.decreases-loop-name
decreases-loop-name l = length l.rest

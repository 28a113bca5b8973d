use Rattle.std.proofs.Common.{◌≡◌, length}
use Rattle.cl_define.specs.Constraints.{hashes_lead}
use Rattle.cl_define.proofs.valid.hashes_lead.Given as goal

abbrev pub invariant-loop-token : goal.invariant-loop-token
invariant-loop-token l = hashes_lead l.mac l.rest ≡ hashes_lead l.mac l.mac.body

abbrev pub decreases-loop-token : goal.decreases-loop-token
decreases-loop-token l = length l.rest

use Rattle.std.proofs.Common.{◌≡◌, ◌++◌, length}
use Rattle.cl_type_tests.proofs.layouts.copied.Given as goal

abbrev pub invariant-loop-member : goal.invariant-loop-member
invariant-loop-member l = l.list ++ l.rest ≡ l.members

abbrev pub decreases-loop-member : goal.decreases-loop-member
decreases-loop-member l = length l.rest

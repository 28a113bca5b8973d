use Rattle.std.proofs.Common.{◌≡◌, length}
use Rattle.cl_expr.proofs.same.same_changes.Given as goal

abbrev pub invariant-loop-this : goal.invariant-loop-this
invariant-loop-this l = l.these ≡ l.those → l.a ≡ l.b

abbrev pub decreases-loop-this : goal.decreases-loop-this
decreases-loop-this l = length l.these

use Rattle.std.proofs.Common.{length}
use Rattle.cl_diag.specs.code.Ranks.{Taken}
use Rattle.cl_diag.proofs.order.ranks_of.Given as goal

abbrev pub invariant-loop-diag : goal.invariant-loop-diag
invariant-loop-diag l = Taken l.fn.diags l.left l.ranks

abbrev pub decreases-loop-diag : goal.decreases-loop-diag
decreases-loop-diag l = length l.left

use Rattle.std.proofs.Common.{◌≡◌, ◌++◌, length, map}
use Rattle.cl_diag.specs.code.Ranks.{diag_of}
use Rattle.cl_diag.proofs.order.diags_of.Given as goal

abbrev pub invariant-loop-rank : goal.invariant-loop-rank
invariant-loop-rank l = l.all ++ map diag_of l.left.keys ≡ map diag_of l.fn.ranks.keys

abbrev pub decreases-loop-rank : goal.decreases-loop-rank
decreases-loop-rank l = length l.left.keys

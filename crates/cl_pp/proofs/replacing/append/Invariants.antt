use Rattle.std.proofs.Common.{◌≡◌, ◌++◌, reverse, length}
use Rattle.cl_pp.proofs.replacing.append.Given as goal

abbrev pub invariant-loop-item : goal.invariant-loop-item
invariant-loop-item g l = l.all ++ reverse l.items ≡ l.fn.all ++ l.fn.more

abbrev pub decreases-loop-item : goal.decreases-loop-item
decreases-loop-item g l = length l.items

use Rattle.std.proofs.Common.{◌-◌, length}
use Rattle.cl_tree.specs.Derives.{end}
use Rattle.cl_expr.proofs.Climb.{Climbing}
use Rattle.cl_expr.proofs.reader.Grammar.climb.Given as goal

abbrev pub invariant-loop-start : goal.invariant-loop-start
invariant-loop-start g l = Climbing l.self.tokens.now l.self.depth l.before l.goal l.fn.first l.left

abbrev pub decreases-loop-start : goal.decreases-loop-start
decreases-loop-start g l = length l.self.tokens.now - end l.left.tree

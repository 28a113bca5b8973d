use Rattle.std.proofs.Common.{take}
use Rattle.cl_tree.specs.Sets.{has}
use Rattle.cl_parse.specs.code.Ahead.{AreLearned}
use Rattle.cl_parse.proofs.ahead.Places.learned.Given as goal

abbrev pub invariant-loop-change : goal.invariant-loop-change
invariant-loop-change l = AreLearned (has l.names) l.to (take l.to l.fn.tokens.items) l.changes l.change-index l.fn.tokens.items l.after.items

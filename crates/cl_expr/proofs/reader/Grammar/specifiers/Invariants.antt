use Rattle.std.proofs.Common.{◌-◌, length}
use Rattle.cl_expr.proofs.Joins.{Others}
use Rattle.cl_expr.proofs.reader.Grammar.specifiers.Given as goal

abbrev pub invariant-loop-after : goal.invariant-loop-after
invariant-loop-after g l = Others l.self.tokens.now l.high l.scope l.from l.after l.at

abbrev pub decreases-loop-after : goal.decreases-loop-after
decreases-loop-after g l = length l.self.tokens.now - l.at

use Rattle.std.proofs.Common.{ℕ, ◌-◌}
use Rattle.cl_tree.specs.declared.scope.Scope.{Scope}
use Rattle.cl_expr.specs.code.Parses.{Chain}
use Rattle.cl_expr.proofs.reader.Grammar.later_specifiers.Given as goal

abbrev pub invariant-loop-at : goal.invariant-loop-at
invariant-loop-at g l = (s : Scope) (first : ℕ) → Chain l.self.tokens.now l.high s first l.from l.fn.before → Chain l.self.tokens.now l.high s first l.at l.after

abbrev pub decreases-loop-at : goal.decreases-loop-at
decreases-loop-at g l = l.to - l.at

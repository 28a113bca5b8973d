use Rattle.std.proofs.Common.{ℕ, subst}
use Rattle.cl_expr.specs.code.Parses.{Chain}
use Rattle.cl_expr.proofs.Joins.{one_later}
use Rattle.cl_expr.proofs.reader.Grammar.later_specifiers.Goals as goal

pub loop-at-preserved : goal.loop-at-preserved
loop-at-preserved g c = λ s first chain.
    one_later c.args.self.now.tokens.now c.args.high s first c.loop-at.at c.loop-at.after c.in-Some.found (c.loop-at.invariant s first chain) (rw c.in-Some.is at c.in_ok-found.ensures)

pub returns-then-at-to : goal.returns-then-at-to
returns-then-at-to g c = λ s first chain. subst (λ (n : ℕ). Chain c.args.self.now.tokens.now c.args.high s first n c.loop-at.after) c.if-at-to.true (c.loop-at.invariant s first chain)

use Rattle.std.proofs.Common.{sym, ◌∙◌}
use Rattle.cl_expr.proofs.Numbers.{with_on_some, on_with, on_past}
use Rattle.cl_expr.proofs.scan.going.Goals as goal

pub returns-clause-some : goal.returns-clause-some
returns-clause-some c =
    with_on_some c.args.tokens.now c.args.scope.now c.args.kind c.args.at c.args.goal c.in-Some.class (sym c.class_at.ensures ∙ c.in-Some.is) c.goer_soon.result c.goer_soon.ensures.some

pub returns-clause-none : goal.returns-clause-none
returns-clause-none c = λ t s h g.
    c.goer_soon.ensures.none t s h (on_with c.args.tokens.now c.args.scope.now s c.args.kind c.args.at c.in-Some.class (sym c.class_at.ensures ∙ c.in-Some.is) g)

pub returns-in_default-clause-none : goal.returns-in_default-clause-none
returns-in_default-clause-none c = λ t s h g. on_past c.args.tokens.now c.args.scope.now s c.args.kind c.args.at (sym c.class_at.ensures ∙ c.in_default.is) g

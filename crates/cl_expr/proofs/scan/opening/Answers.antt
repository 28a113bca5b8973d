use Rattle.std.proofs.Common.{sym, ◌∙◌}
use Rattle.cl_expr.specs.code.Table.{openers}
use Rattle.cl_expr.specs.code.Parses.{Enters}
use Rattle.cl_expr.proofs.Numbers.{opener_there, opener_nowhere, at_some, at_not_none}
use Rattle.cl_expr.proofs.scan.opening.Goals as goal

pub returns-then-number-eq0-clause-none : goal.returns-then-number-eq0-clause-none
returns-then-number-eq0-clause-none c = λ t s h n. opener_nowhere c.args.goal c.args.class (sym c.opener_number-number.ensures ∙ c.if-number-eq0.true) s h n

pub returns-clause-some : goal.returns-clause-some
returns-clause-some c =
    at_some (openers c.args.goal) (λ s. Enters s c.args.class) c.opener_number-number.result _ c.opener_number-number.ensures _ c.opener_at.ensures
    (opener_there c.args.goal c.args.class (λ e. c.if-number-eq0.false (c.opener_number-number.ensures ∙ e)))

pub returns-clause-none : goal.returns-clause-none
returns-clause-none c = λ t s h n.
    at_not_none (openers c.args.goal) (λ s. Enters s c.args.class) c.opener_number-number.result _ c.opener_number-number.ensures _ c.opener_at.ensures
    (opener_there c.args.goal c.args.class (λ e. c.if-number-eq0.false (c.opener_number-number.ensures ∙ e))) t

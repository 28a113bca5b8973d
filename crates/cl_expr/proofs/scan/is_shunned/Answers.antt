use Rattle.std.proofs.Common.{sym, ◌∙◌}
use Rattle.cl_expr.proofs.Bars.{all_open, past_open, not_open, is_open}
use Rattle.cl_expr.proofs.scan.is_shunned.Goals as goal

pub returns-in_default-clause-no : goal.returns-in_default-clause-no
returns-in_default-clause-no c = λ t. all_open c.args.tokens.now c.args.goal c.args.scope.now c.args.at (sym c.shuns.ensures ∙ c.in_default.is)

pub returns-in-Some-class_at-clause-yes : goal.returns-in-Some-class_at-clause-yes
returns-in-Some-class_at-clause-yes c = λ t. not_open c.args.tokens.now c.args.goal c.args.scope.now c.args.at c.in-Some.terminal c.in-Some-class_at.class
    (sym c.shuns.ensures ∙ c.in-Some.is) (sym c.class_at.ensures ∙ c.in-Some-class_at.is) (c.taken.ensures.yes t)

pub returns-in-Some-class_at-clause-no : goal.returns-in-Some-class_at-clause-no
returns-in-Some-class_at-clause-no c = λ t. is_open c.args.tokens.now c.args.goal c.args.scope.now c.args.at c.in-Some.terminal c.in-Some-class_at.class
    (sym c.shuns.ensures ∙ c.in-Some.is) (sym c.class_at.ensures ∙ c.in-Some-class_at.is) (λ h. c.taken.ensures.no t h)

pub returns-in-None-clause-no : goal.returns-in-None-clause-no
returns-in-None-clause-no c = λ t. past_open c.args.tokens.now c.args.goal c.args.scope.now c.args.at (sym c.class_at.ensures ∙ c.in-None.is)

use Rattle.std.proofs.Common.{sym, ◌∙◌}
use Rattle.cl_expr.proofs.Bars.{no_bar, has_bar, bar_has}
use Rattle.cl_expr.proofs.scan.bars.Goals as goal

pub returns-in-None-clause-no : goal.returns-in-None-clause-no
returns-in-None-clause-no c = λ f h. no_bar c.args.place c.args.class (sym c.bar.ensures ∙ c.in-None.is) h

pub returns-in-Some-clause-yes : goal.returns-in-Some-clause-yes
returns-in-Some-clause-yes c = λ t. has_bar c.args.place c.in-Some.terminal c.args.class (sym c.bar.ensures ∙ c.in-Some.is) (c.taken.ensures.yes t)

pub returns-in-Some-clause-no : goal.returns-in-Some-clause-no
returns-in-Some-clause-no c = λ t h. c.taken.ensures.no t (bar_has c.args.place c.in-Some.terminal c.args.class (sym c.bar.ensures ∙ c.in-Some.is) h)

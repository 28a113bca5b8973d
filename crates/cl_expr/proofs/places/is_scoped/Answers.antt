use Rattle.std.proofs.Common.{sym, ◌∙◌}
use Rattle.cl_expr.proofs.Rows.{scoped_is, none_scoped}
use Rattle.cl_expr.proofs.places.is_scoped.Goals as goal

pub returns-in-Some : goal.returns-in-Some
returns-in-Some c = scoped_is c.args.place c.in-Some.row (sym c.row_at.ensures ∙ c.in-Some.is)

pub returns-in-None : goal.returns-in-None
returns-in-None c = sym (none_scoped c.args.place (sym c.row_at.ensures ∙ c.in-None.is))

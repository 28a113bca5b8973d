use Rattle.std.proofs.Common.{sym, ◌∙◌}
use Rattle.cl_expr.proofs.Rows.{label_is, none_label}
use Rattle.cl_expr.proofs.places.name_of.Goals as goal

pub returns-in-Some : goal.returns-in-Some
returns-in-Some c = label_is c.args.place c.in-Some.row (sym c.row_at.ensures ∙ c.in-Some.is)

pub returns-in-None : goal.returns-in-None
returns-in-None c = sym (none_label c.args.place (sym c.row_at.ensures ∙ c.in-None.is))

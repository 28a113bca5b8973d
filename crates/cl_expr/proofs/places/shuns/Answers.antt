use Rattle.std.proofs.Common.{sym, ◌∙◌}
use Rattle.cl_expr.proofs.Bridge.{shunned_as}
use Rattle.cl_expr.proofs.Rows.{shunned_is, none_shunned}
use Rattle.cl_expr.proofs.places.shuns.Goals as goal

pub returns-in-Some : goal.returns-in-Some
returns-in-Some c = shunned_is c.args.goal c.in-Some.row (sym c.goal_at.ensures ∙ c.in-Some.is) ∙ shunned_as c.args.goal

pub returns-in-None : goal.returns-in-None
returns-in-None c = sym (none_shunned c.args.goal (sym c.goal_at.ensures ∙ c.in-None.is)) ∙ shunned_as c.args.goal

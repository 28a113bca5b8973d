use Rattle.std.proofs.Common.{sym, ◌∙◌}
use Rattle.cl_expr.proofs.Rows.{kinds_are, kinds_lie, none_kinds}
use Rattle.cl_expr.proofs.places.kinds.Goals as goal

pub slice_bounds-result-count : goal.slice_bounds-result-count
slice_bounds-result-count c = (kinds_lie c.args.goal c.in-Some.row (sym c.goal_at.ensures ∙ c.in-Some.is)).0

pub slice_bounds-result-start : goal.slice_bounds-result-start
slice_bounds-result-start c = (kinds_lie c.args.goal c.in-Some.row (sym c.goal_at.ensures ∙ c.in-Some.is)).0

pub slice_bounds-result-end : goal.slice_bounds-result-end
slice_bounds-result-end c =
    rw c.all_kinds.ensures ((kinds_lie c.args.goal c.in-Some.row (sym c.goal_at.ensures ∙ c.in-Some.is)).1)

pub returns-in-Some : goal.returns-in-Some
returns-in-Some c =
    rw c.all_kinds.ensures (kinds_are c.args.goal c.in-Some.row (sym c.goal_at.ensures ∙ c.in-Some.is))

pub returns-in-None : goal.returns-in-None
returns-in-None c = sym (none_kinds c.args.goal (sym c.goal_at.ensures ∙ c.in-None.is))

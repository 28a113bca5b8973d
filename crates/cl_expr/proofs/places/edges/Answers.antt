use Rattle.std.proofs.Common.{sym, ◌∙◌}
use Rattle.cl_expr.proofs.Rows.{edges_are, edges_lie, none_edges}
use Rattle.cl_expr.proofs.places.edges.Goals as goal

pub slice_bounds-result-count : goal.slice_bounds-result-count
slice_bounds-result-count c = (edges_lie c.args.place c.in-Some.row (sym c.row_at.ensures ∙ c.in-Some.is)).0

pub slice_bounds-result-start : goal.slice_bounds-result-start
slice_bounds-result-start c = (edges_lie c.args.place c.in-Some.row (sym c.row_at.ensures ∙ c.in-Some.is)).0

pub slice_bounds-result-end : goal.slice_bounds-result-end
slice_bounds-result-end c =
    rw c.all_edges.ensures ((edges_lie c.args.place c.in-Some.row (sym c.row_at.ensures ∙ c.in-Some.is)).1)

pub returns-in-Some : goal.returns-in-Some
returns-in-Some c =
    rw c.all_edges.ensures (edges_are c.args.place c.in-Some.row (sym c.row_at.ensures ∙ c.in-Some.is))

pub returns-in-None : goal.returns-in-None
returns-in-None c = sym (none_edges c.args.place (sym c.row_at.ensures ∙ c.in-None.is))

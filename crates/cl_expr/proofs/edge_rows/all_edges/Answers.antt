use Rattle.std.proofs.Common.{refl}
use Rattle.cl_expr.specs.code.Table.{places, all_edges}
use Rattle.cl_expr.proofs.edge_rows.all_edges.Goals as goal

pub returns : goal.returns
unfolding places all_edges
returns c = refl

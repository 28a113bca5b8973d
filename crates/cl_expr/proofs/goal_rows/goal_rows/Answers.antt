use Rattle.std.proofs.Common.{refl}
use Rattle.cl_expr.specs.code.Table.{goals, goal_rows}
use Rattle.cl_expr.proofs.goal_rows.goal_rows.Goals as goal

pub returns : goal.returns
unfolding goals goal_rows
returns c = refl

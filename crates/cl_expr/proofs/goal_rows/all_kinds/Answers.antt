use Rattle.std.proofs.Common.{refl}
use Rattle.cl_expr.specs.code.Table.{goals, all_kinds}
use Rattle.cl_expr.proofs.goal_rows.all_kinds.Goals as goal

pub returns : goal.returns
unfolding goals all_kinds
returns c = refl

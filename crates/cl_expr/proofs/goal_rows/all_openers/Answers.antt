use Rattle.std.proofs.Common.{refl}
use Rattle.cl_expr.specs.code.Table.{goals, all_openers}
use Rattle.cl_expr.proofs.goal_rows.all_openers.Goals as goal

pub returns : goal.returns
unfolding goals all_openers
returns c = refl

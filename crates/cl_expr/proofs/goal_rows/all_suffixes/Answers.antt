use Rattle.std.proofs.Common.{refl}
use Rattle.cl_expr.specs.code.Table.{goals, all_suffixes}
use Rattle.cl_expr.proofs.goal_rows.all_suffixes.Goals as goal

pub returns : goal.returns
unfolding goals all_suffixes
returns c = refl

use Rattle.std.proofs.Common.{refl}
use Rattle.cl_expr.specs.code.Looks.{number_rows}
use Rattle.cl_expr.proofs.look_rows.number_rows.Goals as goal

pub returns : goal.returns
unfolding number_rows
returns c = refl

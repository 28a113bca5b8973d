use Rattle.std.proofs.Common.{refl}
use Rattle.cl_expr.specs.code.Table.{places, rows}
use Rattle.cl_expr.proofs.place_rows.rows.Goals as goal

pub returns : goal.returns
unfolding places rows
returns c = refl

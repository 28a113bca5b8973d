use Rattle.std.proofs.Common.{refl}
use Rattle.cl_expr.specs.code.Looks.{place_numbers}
use Rattle.cl_expr.proofs.look_rows.place_numbers.Goals as goal

pub returns : goal.returns
unfolding place_numbers
returns c = refl

use Rattle.std.proofs.Common.{refl}
use Rattle.cl_expr.specs.code.Looks.{opener_numbers}
use Rattle.cl_expr.proofs.look_rows.opener_numbers.Goals as goal

pub returns : goal.returns
unfolding opener_numbers
returns c = refl

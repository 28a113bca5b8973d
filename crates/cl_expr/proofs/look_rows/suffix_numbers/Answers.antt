use Rattle.std.proofs.Common.{refl}
use Rattle.cl_expr.specs.code.Looks.{suffix_numbers}
use Rattle.cl_expr.proofs.look_rows.suffix_numbers.Goals as goal

pub returns : goal.returns
unfolding suffix_numbers
returns c = refl

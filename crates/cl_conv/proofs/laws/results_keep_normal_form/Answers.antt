use Rattle.cl_conv.proofs.NormalForms.{binary_kept, call_kept, cast_kept, conditional_kept, member_kept, unary_kept}
use Rattle.cl_conv.proofs.laws.results_keep_normal_form.Goals as goal

pub returns : goal.returns
returns c = record {
  unary = unary_kept;
  binary = binary_kept;
  conditional = conditional_kept;
  cast = cast_kept;
  call = call_kept;
  member = member_kept;
}

use Rattle.cl_types.proofs.NormalLemmas.{array_kept, atomic_kept, atomic_within_kept, composite_kept, element_kept, function_kept, pointer_kept, qualified_kept, unqualified_kept}
use Rattle.cl_types.proofs.laws.normal_forms.Goals as goal

pub returns : goal.returns
returns c = record {
  pointer = pointer_kept;
  array = array_kept;
  element = element_kept;
  qualified = qualified_kept;
  composite = composite_kept;
  function = function_kept;
  unqualified = unqualified_kept;
  atomic = atomic_kept;
  atomic_within = atomic_within_kept;
}

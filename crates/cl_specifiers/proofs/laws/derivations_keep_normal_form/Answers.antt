use Rattle.cl_specifiers.proofs.Kept.{adjusted_made, array_made, atomic_made, function_made, pointer_made, qualified_made}
use Rattle.cl_specifiers.proofs.laws.derivations_keep_normal_form.Goals as goal

pub returns : goal.returns
returns c = record {
  array = array_made;
  function = function_made;
  pointer = pointer_made;
  adjusted = adjusted_made;
  atomic = atomic_made;
  qualified = qualified_made;
}

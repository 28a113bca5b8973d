use Rattle.std.proofs.Common.{refl}
use Rattle.cl_tree.specs.code.Slots.{punctuator_rows}
use Rattle.cl_tree.proofs.slot.punctuator_rows.Goals as goal

pub returns : goal.returns
unfolding punctuator_rows
returns c = refl

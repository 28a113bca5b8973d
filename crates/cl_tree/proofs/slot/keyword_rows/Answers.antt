use Rattle.std.proofs.Common.{refl}
use Rattle.cl_tree.specs.code.Slots.{keyword_rows}
use Rattle.cl_tree.proofs.slot.keyword_rows.Goals as goal

pub returns : goal.returns
unfolding keyword_rows
returns c = refl

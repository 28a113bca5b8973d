use Rattle.std.proofs.Common.{refl}
use Rattle.cl_tree.specs.Spellings.{punctuators}
use Rattle.cl_tree.proofs.spelling.punctuators.Goals as goal

pub returns : goal.returns
unfolding punctuators
returns c = refl

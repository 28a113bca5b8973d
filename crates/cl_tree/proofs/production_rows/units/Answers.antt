use Rattle.std.proofs.Common.{refl}
use Rattle.cl_tree.specs.Grammar.{units}
use Rattle.cl_tree.proofs.production_rows.units.Goals as goal

pub returns : goal.returns
unfolding units
returns c = refl

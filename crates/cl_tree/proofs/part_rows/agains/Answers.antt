use Rattle.std.proofs.Common.{refl}
use Rattle.cl_tree.specs.Grammar.{productions, all_agains}
use Rattle.cl_tree.proofs.part_rows.agains.Goals as goal

pub returns : goal.returns
unfolding productions all_agains
returns c = refl

use Rattle.std.proofs.Common.{refl}
use Rattle.cl_tree.specs.Grammar.{productions, all_parts}
use Rattle.cl_tree.proofs.part_rows.parts.Goals as goal

pub returns : goal.returns
unfolding productions all_parts
returns c = refl

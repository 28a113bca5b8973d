use Rattle.std.proofs.Common.{refl}
use Rattle.cl_tree.specs.Grammar.{productions, all_parts, all_agains}
use Rattle.cl_tree.proofs.production_rows.productions.Goals as goal

pub returns : goal.returns
unfolding productions all_parts all_agains
returns c = refl

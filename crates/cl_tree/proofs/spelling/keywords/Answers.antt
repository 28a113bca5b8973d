use Rattle.std.proofs.Common.{refl}
use Rattle.cl_tree.specs.Spellings.{keywords}
use Rattle.cl_tree.proofs.spelling.keywords.Goals as goal

pub returns : goal.returns
unfolding keywords
returns c = refl

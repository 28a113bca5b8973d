use Rattle.cl_types.proofs.CompatibleLemmas.{compatible_symmetric}
use Rattle.cl_types.proofs.laws.either_way.Goals as goal

pub returns : goal.returns
returns c = compatible_symmetric

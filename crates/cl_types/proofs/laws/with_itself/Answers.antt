use Rattle.cl_types.proofs.CompatibleLemmas.{compatible_reflexive}
use Rattle.cl_types.proofs.laws.with_itself.Goals as goal

pub returns : goal.returns
returns c = compatible_reflexive

use Rattle.cl_define.proofs.Told.{one_defined}
use Rattle.cl_define.proofs.laws.one_definition.Goals as goal

pub returns : goal.returns
returns c = one_defined

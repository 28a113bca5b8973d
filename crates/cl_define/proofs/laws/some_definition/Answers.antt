use Rattle.cl_define.proofs.Told.{some_defined}
use Rattle.cl_define.proofs.laws.some_definition.Goals as goal

pub returns : goal.returns
returns c = some_defined

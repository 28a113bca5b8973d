use Rattle.cl_cond.proofs.Total.{some_value}
use Rattle.cl_cond.proofs.laws.some_value.Goals as goal

pub returns : goal.returns
returns c = some_value

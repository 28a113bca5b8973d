use Rattle.cl_macro.proofs.laws.some_start.Goals as goal
use Rattle.cl_macro.proofs.Starting.{some_given}

pub returns : goal.returns
returns c = some_given

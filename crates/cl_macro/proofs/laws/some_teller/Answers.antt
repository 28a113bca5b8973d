use Rattle.cl_macro.proofs.laws.some_teller.Goals as goal
use Rattle.cl_macro.proofs.Teller.{some_teller}

pub returns : goal.returns
returns c = some_teller

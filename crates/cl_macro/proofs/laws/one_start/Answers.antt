use Rattle.cl_macro.proofs.laws.one_start.Goals as goal
use Rattle.cl_macro.proofs.Starting.{one_given}

pub returns : goal.returns
returns c = one_given

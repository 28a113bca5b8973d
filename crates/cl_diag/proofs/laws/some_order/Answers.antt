use Rattle.cl_diag.proofs.Existing.{some_order}
use Rattle.cl_diag.proofs.laws.some_order.Goals as goal

pub returns : goal.returns
returns c = some_order

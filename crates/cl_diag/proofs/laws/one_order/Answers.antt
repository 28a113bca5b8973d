use Rattle.cl_diag.proofs.Unique.{one_order}
use Rattle.cl_diag.proofs.laws.one_order.Goals as goal

pub returns : goal.returns
returns c = one_order

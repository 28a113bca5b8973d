use Rattle.cl_layout.proofs.Existence.{one_layout}
use Rattle.cl_layout.proofs.laws.one_layout.Goals as goal

pub returns : goal.returns
returns c = one_layout

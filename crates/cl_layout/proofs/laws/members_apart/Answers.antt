use Rattle.cl_layout.proofs.Filling.{members_apart}
use Rattle.cl_layout.proofs.laws.members_apart.Goals as goal

pub returns : goal.returns
returns c = members_apart

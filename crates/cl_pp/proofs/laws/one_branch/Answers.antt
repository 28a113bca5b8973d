use Rattle.cl_pp.proofs.Branching.{one_active}
use Rattle.cl_pp.proofs.laws.one_branch.Goals as goal

pub returns : goal.returns
returns c = one_active

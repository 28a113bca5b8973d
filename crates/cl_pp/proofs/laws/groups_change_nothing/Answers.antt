use Rattle.cl_pp.proofs.Branching.{whole_over}
use Rattle.cl_pp.proofs.laws.groups_change_nothing.Goals as goal

pub returns : goal.returns
returns c = whole_over

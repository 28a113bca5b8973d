use Rattle.cl_cond.proofs.Deriving.{is_group}
use Rattle.cl_cond.proofs.laws.marks_are_a_group.Goals as goal

pub returns : goal.returns
returns c = is_group

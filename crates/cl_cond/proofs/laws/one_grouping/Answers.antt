use Rattle.cl_cond.proofs.Unique.{one_grouping}
use Rattle.cl_cond.proofs.laws.one_grouping.Goals as goal

pub returns : goal.returns
returns c = one_grouping

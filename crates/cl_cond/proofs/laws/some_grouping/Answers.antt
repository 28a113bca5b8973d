use Rattle.cl_cond.proofs.Existing.{some_grouping}
use Rattle.cl_cond.proofs.laws.some_grouping.Goals as goal

pub returns : goal.returns
returns c = some_grouping

use Rattle.cl_pp.proofs.Shapes.{join, split}
use Rattle.cl_pp.proofs.laws.resumed.Goals as goal

pub returns-clause-splits : goal.returns-clause-splits
returns-clause-splits c = split

pub returns-clause-joins : goal.returns-clause-joins
returns-clause-joins c = join

use Rattle.cl_pp.proofs.Needing.{first_needed}
use Rattle.cl_pp.proofs.laws.first_needed.Goals as goal

pub returns : goal.returns
returns c = first_needed

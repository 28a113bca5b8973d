use Rattle.cl_layout.proofs.Ranges.{known_in_range}
use Rattle.cl_layout.proofs.laws.known_in_range.Goals as goal

pub returns : goal.returns
returns c = known_in_range

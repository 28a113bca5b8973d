use Rattle.cl_layout.proofs.Filling.{members_in_place}
use Rattle.cl_layout.proofs.laws.members_in_place.Goals as goal

pub returns : goal.returns
returns c = members_in_place

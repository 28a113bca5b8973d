use Rattle.cl_scope.proofs.Resume.{whole_stands}
use Rattle.cl_scope.proofs.laws.stands.Goals as goal

pub returns : goal.returns
returns c = λ g made. whole_stands g made

use Rattle.cl_scope.proofs.Resume.{only_adds}
use Rattle.cl_scope.proofs.laws.only_adds.Goals as goal

pub returns : goal.returns
returns c = λ item w. only_adds item w

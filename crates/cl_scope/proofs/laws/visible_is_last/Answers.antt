use Rattle.cl_scope.proofs.Holding.{seen_is}
use Rattle.cl_scope.proofs.laws.visible_is_last.Goals as goal

pub returns : goal.returns
returns c = λ before space name. seen_is before space name

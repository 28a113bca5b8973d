use Rattle.cl_scope.specs.Known.{known}
use Rattle.cl_scope.proofs.SoFar.{tells_nothing}
use Rattle.cl_scope.proofs.scopes.Scopes.new.Goals as goal

pub invariant_of-result : goal.invariant_of-result
invariant_of-result g c = (c.requires, λ e. tells_nothing (known (g.B.Base.holds c.args.base.now)) _ _ _ _ _ c.new.ensures c.new-6.ensures.empty c.new-7.ensures.empty c.new-8.ensures.empty c.new-9.ensures.empty)

use Rattle.cl_base.proofs.SameSettings.{settings_Decides}
use Rattle.cl_base.proofs.config.Config.same.Goals as goal

pub returns : goal.returns
returns c = rw (← c.self.view_is, ← c.other.view_is, ← c.deref.ensures, ← c.deref-2.ensures, c.eq.ensures) (settings_Decides c.deref.result.now c.deref-2.result.now)

use Rattle.cl_store.proofs.Puts.{puts}
use Rattle.cl_store.proofs.docs.Docs.close.Goals as goal

pub returns-clause-after : goal.returns-clause-after
returns-clause-after c = rw (← c.self.view_is) (puts c.self.inside.entries c.remove.new.self _ _ c.remove.ensures.updates)

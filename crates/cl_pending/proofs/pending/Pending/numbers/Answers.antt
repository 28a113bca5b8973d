use Rattle.std.proofs.Common.{◌∙◌}
use Rattle.cl_pending.proofs.pending.Pending.numbers.Goals as goal

pub returns-in_ok-numbers-in-Document : goal.returns-in_ok-numbers-in-Document
returns-in_ok-numbers-in-Document g c = rw (← c.self.view_is, c.in-Document.is) (c.in_ok-numbers-in-Document.ensures ∙ c.self.invariant.by_document c.in-Document.path.now)

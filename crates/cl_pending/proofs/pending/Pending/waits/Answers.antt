use Rattle.std.proofs.Common.{ap, ◌∙◌}
use Rattle.std.specs.Prelude.{is_some}
use Rattle.std.specs.BTreeMap.{values}
use Rattle.cl_pending.specs.Meant.{has_id_by}
use Rattle.cl_pending.specs.Indexes.{message_by}
use Rattle.cl_pending.proofs.Indexed.{some_meant}
use Rattle.cl_pending.proofs.pending.Pending.waits.Goals as goal

pub returns : goal.returns
returns g c = rw (← c.self.view_is) (c.is_some.ensures ∙ ap is_some c.get.ensures ∙ some_meant g.W.Waits.key (message_by c.self.inside.ids c.args.id.now) (has_id_by g.W.Waits.key c.args.id.now) (values c.self.inside.waiting) (c.self.invariant.by_id c.args.id.now))

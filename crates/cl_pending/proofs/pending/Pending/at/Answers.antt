use Rattle.std.proofs.Common.{ap, sym, ◌∙◌}
use Rattle.std.specs.Prelude.{option_to_list}
use Rattle.cl_pending.proofs.Indexed.{at_number}
use Rattle.cl_pending.proofs.pending.Pending.at.Goals as goal

pub returns : goal.returns
returns g c = rw (← c.self.view_is) (ap option_to_list c.get.ensures.value ∙ sym (at_number g.W.Waits.key c.args.message c.self.inside.waiting.entries c.self.invariant.keyed c.self.invariant.ordered))

use Rattle.std.proofs.Common.{ap, ◌∙◌, subst}
use Rattle.std.specs.BTreeMap.{is_at}
use Rattle.std.specs.Map.{remove_entry}
use Rattle.cl_headers.specs.Maps.{InOrder}
use Rattle.cl_headers.proofs.Put.{still_gone, gone}
use Rattle.cl_headers.proofs.Row.{order}
use Rattle.cl_headers.proofs.map.HeaderMap.forget.Goals as goal

pub invariant_of-self : goal.invariant_of-self
invariant_of-self c = still_gone c.args.path.now c.self.inside.tree c.in_ok-self-inside.field-0 c.self.invariant c.in_ok-self-inside.ensures

pub returns-clause-puts : goal.returns-clause-puts
returns-clause-puts c =
    gone c.args.path.now c.args.self.now c.in_ok-self-inside.field-0 (subst InOrder c.self.view_is c.self.invariant.ordered)
    (c.in_ok-self-inside.ensures ∙ ap (remove_entry (is_at (order c.args.path.now))) c.self.view_is)

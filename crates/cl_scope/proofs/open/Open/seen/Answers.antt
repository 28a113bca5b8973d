use Rattle.cl_scope.specs.code.Open.{trail_of}
use Rattle.cl_scope.proofs.Scoping.{seen_none, seen_some}
use Rattle.std.proofs.Common.{◌∙◌}
use Rattle.cl_scope.proofs.open.Open.seen.Goals as goal

pub returns-in-None : goal.returns-in-None
returns-in-None c = seen_none c.args.self.now c.args.space c.args.name.now c.in-None.ensures

pub returns-in-Some : goal.returns-in-Some
returns-in-Some c = c.number_at.ensures ∙ seen_some c.deref.result.now c.self.inside.slots.items (trail_of c.self.inside.slots.items) c.args.self.now c.args.space c.args.name.now c.in-Some.at
    c.deref.ensures.value c.self.invariant.hides c.self.view_is c.in-Some.ensures

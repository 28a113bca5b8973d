use Rattle.cl_scope.specs.code.Open.{trail_of}
use Rattle.cl_scope.proofs.Scoping.{here_none, here_some, seen_some}
use Rattle.std.proofs.Common.{◌∙◌, ◌≡◌, true, false, sym}
use Rattle.cl_scope.proofs.open.Open.seen_here.Goals as goal

pub returns-in-None : goal.returns-in-None
returns-in-None c = here_none c.args.self.now c.args.space c.args.name.now c.in-None.ensures

pub returns-then-is_outer : goal.returns-then-is_outer
returns-then-is_outer c = here_some c.args.self.now c.args.space c.args.name.now c.in-Some.at true c.in-Some.ensures (sym c.if-is_outer.true ∙ c.is_outer.ensures)

pub returns-else-is_outer : goal.returns-else-is_outer
returns-else-is_outer c = c.number_at.ensures ∙ seen_some c.deref.result.now c.self.inside.slots.items (trail_of c.self.inside.slots.items) c.args.self.now c.args.space c.args.name.now c.in-Some.at
    c.deref.ensures.value c.self.invariant.hides c.self.view_is c.in-Some.ensures
    ∙ here_some c.args.self.now c.args.space c.args.name.now c.in-Some.at false c.in-Some.ensures (sym c.if-is_outer.false ∙ c.is_outer.ensures)

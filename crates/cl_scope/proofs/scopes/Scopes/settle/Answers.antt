use Rattle.std.proofs.Common.{sym, ap, ◌∙◌}
use Rattle.cl_scope.specs.Known.{known, is_of}
use Rattle.cl_scope.specs.Steps.{World, unit_of}
use Rattle.cl_scope.proofs.SoFar.{tells_more}
use Rattle.cl_scope.proofs.scopes.Scopes.settle.Goals as goal

pub invariant_of-self-2 : goal.invariant_of-self-2
invariant_of-self-2 g c = (
  c.self.invariant.0,
  λ e. tells_more (known (g.B.Base.holds c.self.inside.base.now)) c.self.inside.made.settled c.push.new.self c.args.no c.args.decl
      c.self.inside.outsides c.put_outside.new.table c.self.inside.links c.put_link.new.table c.self.inside.entities c.put_joined.new.table c.self.inside.latest c.put_latest.new.latest
      c.in_ok-last.last c.in_ok-first.first c.later.result c.earlier.result c.in_ok-again.again c.in_ok-before.before _
      (c.self.invariant.1 c.if-self.false) c.in_ok-push.ensures.ok
      (λ space name h. c.in_ok-last.ensures space name h ∙ ap (λ (w : World). (unit_of w).outside space name) (sym c.self.view_is))
      (λ name linkage h. c.in_ok-first.ensures name linkage h ∙ ap (λ (w : World). (unit_of w).linked name linkage) (sym c.self.view_is))
      c.later.ensures c.earlier.ensures
      (c.in_ok-again.ensures ∙ ap (λ (w : World). is_of ((unit_of w).decl c.args.no.0) c.args.decl.first) (sym c.self.view_is))
      c.in_ok-before.ensures c.len.ensures.value
      c.in_ok-put_outside.ensures c.in_ok-put_link.ensures c.in_ok-put_joined.ensures c.in_ok-put_latest.ensures,
)

use Rattle.std.proofs.Common.{arith, sym, ◌∙◌, ap, length, List, [], ◌∷◌, ◌++◌, length-append}
use Rattle.cl_scope.specs.code.Open.{trail_of}
use Rattle.cl_scope.specs.declared.open.Slot.{Slot}
use Rattle.cl_scope.specs.declared.history.Entry.TheVariants.{Named}
use Rattle.cl_scope.proofs.Scoping.{pushed}
use Rattle.cl_scope.proofs.open.Open.push.Goals as goal

pub invariant_of-self-in-Ok : goal.invariant_of-self-in-Ok
invariant_of-self-in-Ok c = pushed c.self.inside.slots.items c.push.new.self.items c.self.inside.begin c.self.inside.heads c.put_head.new.heads c.args.space c.args.name.now c.in_ok-name.name c.in_ok-key.key c.args.no c.head-hidden.result
    c.len-at.result c.args.self.now c.self.invariant c.self.view_is c.in_ok-name.ensures c.in_ok-key.ensures c.in_ok-push.ensures.items
    (let held = c.self.inside.slots.ok.0 in let n = ap (λ (xs : List Slot). length xs) c.in_ok-push.ensures.items in let few = c.if-len-gt-MOST.false in let m = length-append c.self.inside.slots.items (record { entry = Named c.args.space c.in_ok-name.name c.args.no; hidden = c.head-hidden.result } ∷ []) in omega (arith, held, few, n, m, c.len-at.ensures)) c.head-hidden.ensures
    (let held = c.self.inside.slots.ok.0 in let all = c.len-at.ensures in omega (arith, held, all)) c.in-Ok.ensures.ok

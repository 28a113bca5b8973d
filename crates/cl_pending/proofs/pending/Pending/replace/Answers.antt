use Rattle.std.proofs.Common.{◌≡◌, rules, subst, sym}
use Rattle.std.specs.Prelude.{Some, None}
use Rattle.std.specs.Ordering.{nat_cmp}
use Rattle.std.specs.BTreeMap.{get, values, insert_entry}
use Rattle.cl_pending.proofs.InPlace.{AreSame, none_put, still_indexed, values_put}
use Rattle.cl_pending.proofs.pending.Pending.replace.Goals as goal

pub returns-in_default-clause-ok : goal.returns-in_default-clause-ok
returns-in_default-clause-ok g c =
    let key = g.W.Waits.key in
    let none_at : get nat_cmp c.self.inside.waiting c.message-message.result ≡ None = search rules in
    let none : get nat_cmp c.self.inside.waiting (key c.args.waiting).message ≡ None = rw (← c.message-message.ensures) none_at in
    rw (← c.self.view_is) (none_put key c.args.waiting c.self.inside.waiting c.self.inside.ids c.self.inside.documents c.self.invariant none)

pub invariant_of-self-2 : goal.invariant_of-self-2
invariant_of-self-2 g c =
    let key = g.W.Waits.key in
    let same : AreSame key c.args.waiting (values c.self.inside.waiting) = subst (AreSame key c.args.waiting) (sym c.self.view_is) c.requires in
    let found_at : get nat_cmp c.self.inside.waiting c.message-message.result ≡ Some c.in-Some.field-0.now = search rules in
    let found : get nat_cmp c.self.inside.waiting (key c.args.waiting).message ≡ Some c.in-Some.field-0.now = rw (← c.message-message.ensures) found_at in
    let put : c.insert.new.self.entries ≡ insert_entry nat_cmp c.self.inside.waiting.entries (key c.args.waiting).message c.args.waiting = rw (← c.message-message.ensures) c.in_ok-insert.ensures.entries in
    still_indexed key c.args.waiting c.self.inside.waiting c.insert.new.self c.self.inside.ids c.self.inside.documents c.in-Some.field-0.now c.self.invariant same found put (search rules)

pub returns-clause-ok : goal.returns-clause-ok
returns-clause-ok g c =
    let key = g.W.Waits.key in
    let found_at : get nat_cmp c.self.inside.waiting c.message-message.result ≡ Some c.in-Some.field-0.now = search rules in
    let found : get nat_cmp c.self.inside.waiting (key c.args.waiting).message ≡ Some c.in-Some.field-0.now = rw (← c.message-message.ensures) found_at in
    let put : c.insert.new.self.entries ≡ insert_entry nat_cmp c.self.inside.waiting.entries (key c.args.waiting).message c.args.waiting = rw (← c.message-message.ensures) c.in_ok-insert.ensures.entries in
    rw (← c.self.view_is) (values_put key c.args.waiting c.self.inside.waiting c.insert.new.self c.self.inside.ids c.self.inside.documents c.in-Some.field-0.now c.self.invariant found put)

use Rattle.std.proofs.Common.{◌≡◌, sym, ap, ◌∙◌, List, ℕ, if◌then◌else◌}
use Rattle.std.specs.Prelude.{None}
use Rattle.std.specs.Map.{values_of}
use Rattle.std.specs.Str.{bytes_eq}
use Rattle.cl_rpc.specs.declared.id.Id.{Id}
use Rattle.cl_rpc.specs.Classes.{same_id}
use Rattle.cl_pending.specs.Keys.{without}
use Rattle.cl_pending.specs.Indexes.{message_by, messages_on}
use Rattle.cl_pending.proofs.Indexed.{removed, left_at}
use Rattle.cl_pending.proofs.pending.Pending.remove.Goals as goal

pub invariant_of-self : goal.invariant_of-self
invariant_of-self g c =
    let key = g.W.Waits.key in
    let by : (i : Id) → message_by c.remove-in-Some.new.self i ≡ (if same_id (key c.in-Some.waiting).id i then None else message_by c.self.inside.ids i) = rw (← c.id.ensures) c.remove-in-Some.ensures in
    let on : (q : List ℕ) → messages_on c.remove-in-Some-2.new.self q ≡ (if bytes_eq (key c.in-Some.waiting).path q then without c.args.message (messages_on c.self.inside.documents q) else messages_on c.self.inside.documents q) =
    rw (← c.path.ensures) c.remove-in-Some-2.ensures in
    removed key c.self.inside.waiting c.remove.new.self c.self.inside.ids c.remove-in-Some.new.self c.self.inside.documents c.remove-in-Some-2.new.self c.args.message c.in-Some.waiting c.self.invariant
    (sym c.in-Some.is ∙ c.remove.ensures.value) c.remove.ensures.ordered c.remove.ensures.entries by on

pub returns-in-Some : goal.returns-in-Some
returns-in-Some g c =
    rw (← c.self.view_is)
    (ap values_of c.remove.ensures.entries ∙ left_at g.W.Waits.key c.args.message c.self.inside.waiting.entries c.self.invariant.keyed c.self.invariant.ordered)

pub returns-in_default : goal.returns-in_default
returns-in_default g c =
    rw (← c.self.view_is)
    (ap values_of c.remove.ensures.entries ∙ left_at g.W.Waits.key c.args.message c.self.inside.waiting.entries c.self.invariant.keyed c.self.invariant.ordered)

use Rattle.std.proofs.Common.{◌≡◌, sym, ap, ◌∙◌, List, ℕ, map, filter, nat_eq}
use Rattle.std.specs.Prelude.{option_to_list, slice_get}
use Rattle.std.specs.Str.{bytes_eq}
use Rattle.std.specs.BTreeMap.{values}
use Rattle.cl_rpc.specs.Classes.{same_id}
use Rattle.cl_pending.specs.Meant.{number_by}
use Rattle.cl_pending.specs.Indexes.{message_by}
use Rattle.cl_pending.proofs.Indexed.{head_of, alone}
use Rattle.cl_pending.proofs.pending.Pending.first.Goals as goal

pub returns-in-Id-clause-alone : goal.returns-in-Id-clause-alone
returns-in-Id-clause-alone g c =
    rw (← c.self.view_is, c.in-Id.is)
    (alone g.W.Waits.key c.self.inside.waiting.entries (λ w. same_id c.in-Id.id.now (g.W.Waits.key w).id) c.get.result c.self.invariant.keyed c.self.invariant.ordered
    (c.get.ensures ∙ sym (head_of (message_by c.self.inside.ids c.in-Id.id.now)) ∙ ap (λ (ns : List ℕ). slice_get ns 0) (c.self.invariant.by_id c.in-Id.id.now)))

pub returns-in-Document-clause-alone : goal.returns-in-Document-clause-alone
returns-in-Document-clause-alone g c =
    rw (← c.self.view_is, c.in-Document.is)
    (alone g.W.Waits.key c.self.inside.waiting.entries (λ w. bytes_eq (g.W.Waits.key w).path c.in-Document.path.now) c.first.result c.self.invariant.keyed c.self.invariant.ordered
    (c.first.ensures ∙ ap (λ (ns : List ℕ). slice_get ns 0) (c.self.invariant.by_document c.in-Document.path.now)))

pub returns-in-Message-clause-alone : goal.returns-in-Message-clause-alone
returns-in-Message-clause-alone g c =
    let numbered : option_to_list c.number.result ≡ map (number_by g.W.Waits.key) (filter (λ w. nat_eq (g.W.Waits.key w).message c.in-Message.message) (values c.self.inside.waiting)) = rw c.self.view_is c.number.ensures in
    rw (← c.self.view_is, c.in-Message.is)
    (alone g.W.Waits.key c.self.inside.waiting.entries (λ w. nat_eq (g.W.Waits.key w).message c.in-Message.message) c.number.result c.self.invariant.keyed c.self.invariant.ordered
    (sym (head_of c.number.result) ∙ ap (λ (ns : List ℕ). slice_get ns 0) numbered))

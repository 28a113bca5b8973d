use Rattle.std.proofs.Common.{◌≡◌, refl, sym, ap, ◌∙◌, subst, rules, List, ℕ, ◌<◌, ◌∷◌, [], ◌++◌, false, if◌then◌else◌}
use Rattle.std.specs.Prelude.{None, Some}
use Rattle.std.specs.List.{AllByRecursion, list_any}
use Rattle.std.specs.Str.{bytes_eq}
use Rattle.std.specs.Ordering.{nat_cmp}
use Rattle.std.specs.BTreeMap.{values, insert_entry}
use Rattle.std.specs.Map.{values_of}
use Rattle.cl_rpc.specs.declared.id.Id.{Id}
use Rattle.cl_rpc.specs.Classes.{same_id}
use Rattle.cl_pending.specs.Meant.{has_id_by}
use Rattle.cl_pending.specs.Keys.{without}
use Rattle.cl_pending.specs.Indexes.{message_by, messages_on}
use Rattle.cl_pending.proofs.Indexed.{Below, numbers_below, pushed, values_more, taken_back, document_back}
use Rattle.cl_pending.proofs.pending.Pending.push.Goals as goal

pub insert-requires-2 : goal.insert-requires-2
insert-requires-2 g c =
    let key = g.W.Waits.key in
    let w = c.args.waiting in
    let below : Below key (key w).message (values c.self.inside.waiting) = subst (Below key (key w).message) (sym c.self.view_is) c.requires.above in
    let above : AllByRecursion (λ n. n < (key w).message) (messages_on c.self.inside.documents (key w).path) =
    subst (AllByRecursion (λ n. n < (key w).message)) (sym (c.self.invariant.by_document (key w).path)) (numbers_below key (λ v. bytes_eq (key v).path (key w).path) (key w).message (values c.self.inside.waiting) below) in
    rw (c.message-message.ensures, c.path.ensures) (record { above = above })

pub invariant_of-self-then-is_err : goal.invariant_of-self-then-is_err
invariant_of-self-then-is_err g c =
    let key = g.W.Waits.key in
    let w = c.args.waiting in
    let free : list_any (has_id_by key (key w).id) (values c.self.inside.waiting) ≡ false = subst (λ ws. list_any (has_id_by key (key w).id) ws ≡ false) (sym c.self.view_is) c.requires.free in
    let put : (i : Id) → message_by c.insert.new.self i ≡ (if same_id (key w).id i then Some (key w).message else message_by c.self.inside.ids i) =
    rw (← c.id.ensures, ← c.message-message.ensures) c.in_ok-insert.ensures.ok in
    let gone : (i : Id) → message_by c.remove.new.self i ≡ (if same_id (key w).id i then None else message_by c.insert.new.self i) = rw (← c.id-then-is_err.ensures) c.remove.ensures in
    let same : (q : List ℕ) → messages_on c.insert-2.new.self q ≡ messages_on c.self.inside.documents q = search (rules, c.insert-2.ensures.err) in
    taken_back key c.self.inside.waiting c.self.inside.waiting c.self.inside.ids c.insert.new.self c.remove.new.self c.self.inside.documents c.insert-2.new.self w c.self.invariant
    free c.self.invariant.ordered refl put gone same

pub invariant_of-self-in-Ok : goal.invariant_of-self-in-Ok
invariant_of-self-in-Ok g c =
    let key = g.W.Waits.key in
    let w = c.args.waiting in
    let free : list_any (has_id_by key (key w).id) (values c.self.inside.waiting) ≡ false = subst (λ ws. list_any (has_id_by key (key w).id) ws ≡ false) (sym c.self.view_is) c.requires.free in
    let below : Below key (key w).message (values c.self.inside.waiting) = subst (Below key (key w).message) (sym c.self.view_is) c.requires.above in
    let put : (i : Id) → message_by c.insert.new.self i ≡ (if same_id (key w).id i then Some (key w).message else message_by c.self.inside.ids i) =
    rw (← c.id.ensures, ← c.message-message.ensures) c.in_ok-insert.ensures.ok in
    let on : (q : List ℕ) → messages_on c.insert-2.new.self q ≡ (if bytes_eq (key w).path q then messages_on c.self.inside.documents q ++ (key w).message ∷ [] else messages_on c.self.inside.documents q) =
    rw (← c.path.ensures, ← c.message-message.ensures) (search (rules, c.insert-2.ensures.ok)) in
    let entries : c.insert-3.new.self.entries ≡ insert_entry nat_cmp c.self.inside.waiting.entries (key w).message w = rw (← c.message-message.ensures) c.in-Ok.ensures.entries in
    pushed key c.self.inside.waiting c.insert-3.new.self c.self.inside.ids c.insert.new.self c.self.inside.documents c.insert-2.new.self w c.self.invariant
    free below c.insert-3.ensures.ordered entries put on

pub returns-in-Ok-clause-ok : goal.returns-in-Ok-clause-ok
returns-in-Ok-clause-ok g c =
    let key = g.W.Waits.key in
    let w = c.args.waiting in
    let below : Below key (key w).message (values c.self.inside.waiting) = subst (Below key (key w).message) (sym c.self.view_is) c.requires.above in
    let entries : c.insert-3.new.self.entries ≡ insert_entry nat_cmp c.self.inside.waiting.entries (key w).message w = rw (← c.message-message.ensures) c.in-Ok.ensures.entries in
    ap values_of entries ∙ values_more key c.self.inside.waiting.entries w c.self.invariant.keyed below
    ∙ ap (λ ws. ws ++ w ∷ []) c.self.view_is

pub invariant_of-self-in-Err : goal.invariant_of-self-in-Err
invariant_of-self-in-Err g c =
    let key = g.W.Waits.key in
    let w = c.args.waiting in
    let m = (key w).message in
    let free : list_any (has_id_by key (key w).id) (values c.self.inside.waiting) ≡ false = subst (λ ws. list_any (has_id_by key (key w).id) ws ≡ false) (sym c.self.view_is) c.requires.free in
    let below : Below key (key w).message (values c.self.inside.waiting) = subst (Below key (key w).message) (sym c.self.view_is) c.requires.above in
    let put : (i : Id) → message_by c.insert.new.self i ≡ (if same_id (key w).id i then Some (key w).message else message_by c.self.inside.ids i) =
    rw (← c.id.ensures, ← c.message-message.ensures) c.in_ok-insert.ensures.ok in
    let on : (q : List ℕ) → messages_on c.insert-2.new.self q ≡ (if bytes_eq (key w).path q then messages_on c.self.inside.documents q ++ (key w).message ∷ [] else messages_on c.self.inside.documents q) =
    rw (← c.path.ensures, ← c.message-message.ensures) (search (rules, c.insert-2.ensures.ok)) in
    let back : c.in-Err.failed.value.1 ≡ w = search rules in
    let by : (i : Id) → message_by c.remove-in-Err.new.self i ≡ (if same_id (key w).id i then None else message_by c.insert.new.self i) =
    rw (← back, ← c.id-in-Err.ensures) c.remove-in-Err.ensures in
    let gone : (q : List ℕ) → messages_on c.remove-in-Err-2.new.self q ≡ (if bytes_eq (key w).path q then without (key w).message (messages_on c.insert-2.new.self q) else messages_on c.insert-2.new.self q) =
    rw (← c.message-message.ensures, ← back, ← c.path-in-Err.ensures) c.remove-in-Err-2.ensures in
    taken_back key c.self.inside.waiting c.insert-3.new.self c.self.inside.ids c.insert.new.self c.remove-in-Err.new.self c.self.inside.documents c.remove-in-Err-2.new.self w c.self.invariant
    free c.insert-3.ensures.ordered c.in-Err.ensures.err put by
    (document_back key c.self.inside.waiting c.self.inside.ids c.self.inside.documents c.insert-2.new.self c.remove-in-Err-2.new.self w c.self.invariant below on gone)

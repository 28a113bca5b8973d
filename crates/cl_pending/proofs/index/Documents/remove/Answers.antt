use Rattle.std.proofs.Common.{◌≡◌, sym, ap, ◌∙◌, rules, List, ℕ, [], if◌then◌else◌, arith}
use Rattle.std.specs.Prelude.{Some, None}
use Rattle.std.specs.Ordering.{nat_cmp}
use Rattle.std.specs.Cmp.Lexicographic.{slice_cmp}
use Rattle.std.specs.BTreeMap.{get}
use Rattle.std.proofs.lemmas.List.{nil_from_length}
use Rattle.std.specs.Str.{bytes_eq}
use Rattle.cl_pending.specs.Keys.{without}
use Rattle.cl_pending.specs.Indexes.{messages_on}
use Rattle.cl_pending.proofs.Putting.{if_again, group_put, group_there, group_becomes, let_go}
use Rattle.cl_pending.proofs.index.Documents.remove.Goals as goal

pub returns-then-count-eq1 : goal.returns-then-count-eq1
returns-then-count-eq1 c =
    let there : get (slice_cmp nat_cmp) c.args.self.now.groups c.args.path.now ≡ Some c.in-Some.group.now = search rules in
    let w = c.get_mut.follows.holds c.remove-was_there.new.self in
    let same = group_there c.args.self.now c.args.path.now c.in-Some.group.now there in
    let left : c.remove-was_there.new.self.keys ≡ without c.args.message (messages_on c.args.self.now c.args.path.now) =
    c.remove-was_there.ensures.keys ∙ let_go c.in-Some.group.now.keys c.args.message c.len-count.ensures.ordered ∙ ap (without c.args.message) same in
    let none : c.remove-was_there.new.self.keys ≡ [] = nil_from_length _ (grind (arith, c.remove-was_there.ensures.len, c.if-was_there.true, c.if-count-eq1.true, c.len-count.ensures.len)) in
    let mid = group_put c.args.self.now (record { groups = c.get_mut.follows.lender c.remove-was_there.new.self }) c.args.path.now (Some c.remove-was_there.new.self) _ (w.3 (search (rules, there))) left in
    let last = group_put (record { groups = c.get_mut.follows.lender c.remove-was_there.new.self }) (record { groups = c.remove.new.self }) c.args.path.now None _ c.remove.ensures.updates (sym none ∙ left) in
    group_becomes c.args.self.now (record { groups = c.remove.new.self }) c.args.path.now (without c.args.message)
    (λ q. last q ∙ ap (λ (ns : List ℕ). if bytes_eq c.args.path.now q then without c.args.message (messages_on c.args.self.now c.args.path.now) else ns) (mid q)
    ∙ if_again (bytes_eq c.args.path.now q) _ _ (messages_on c.args.self.now q))

pub returns-else-was_there : goal.returns-else-was_there
returns-else-was_there c =
    let there : get (slice_cmp nat_cmp) c.args.self.now.groups c.args.path.now ≡ Some c.in-Some.group.now = search rules in
    let w = c.get_mut.follows.holds c.remove-was_there.new.self in
    let same = group_there c.args.self.now c.args.path.now c.in-Some.group.now there in
    group_becomes c.args.self.now (record { groups = c.get_mut.follows.lender c.remove-was_there.new.self }) c.args.path.now (without c.args.message)
    (group_put c.args.self.now (record { groups = c.get_mut.follows.lender c.remove-was_there.new.self }) c.args.path.now (Some c.remove-was_there.new.self) _ (w.3 (search (rules, there)))
    (c.remove-was_there.ensures.keys ∙ let_go c.in-Some.group.now.keys c.args.message c.len-count.ensures.ordered ∙ ap (without c.args.message) same))

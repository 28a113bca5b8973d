use Rattle.std.proofs.Common.{◌≡◌, ap, ◌∙◌, rules, List, ℕ, ◌∷◌, [], ◌++◌, if◌then◌else◌}
use Rattle.std.specs.Prelude.{Some}
use Rattle.std.specs.Ordering.{nat_cmp}
use Rattle.std.specs.Cmp.Lexicographic.{slice_cmp}
use Rattle.std.specs.BTreeMap.{get}
use Rattle.std.specs.Str.{bytes_eq}
use Rattle.cl_pending.specs.Indexes.{messages_on}
use Rattle.cl_pending.proofs.Lists.{on_err}
use Rattle.cl_pending.proofs.Putting.{same_groups, group_put, group_there, group_becomes, if_same, put_last}
use Rattle.cl_pending.proofs.index.Documents.insert.Goals as goal

pub returns-in_err-insert-clause-err : goal.returns-in_err-insert-clause-err
returns-in_err-insert-clause-err c =
    let there : get (slice_cmp nat_cmp) c.args.self.now.groups c.args.path.now ≡ Some c.in-Some.group.now = search rules in
    let w = c.get_mut.follows.holds c.insert.new.self in
    let all = group_becomes c.args.self.now (record { groups = c.get_mut.follows.lender c.insert.new.self }) c.args.path.now (λ ns. ns)
    (group_put c.args.self.now (record { groups = c.get_mut.follows.lender c.insert.new.self }) c.args.path.now (Some c.insert.new.self) _ (w.3 (search (rules, there)))
    (c.in_err-insert.ensures.err ∙ group_there c.args.self.now c.args.path.now c.in-Some.group.now there)) in
    on_err c.from_residual.result _ (λ q. all q ∙ if_same (bytes_eq c.args.path.now q) (messages_on c.args.self.now q))

pub returns-in-Some-clause-ok : goal.returns-in-Some-clause-ok
returns-in-Some-clause-ok c =
    let there : get (slice_cmp nat_cmp) c.args.self.now.groups c.args.path.now ≡ Some c.in-Some.group.now = search rules in
    let w = c.get_mut.follows.holds c.insert.new.self in
    let same = group_there c.args.self.now c.args.path.now c.in-Some.group.now there in
    group_becomes c.args.self.now (record { groups = c.get_mut.follows.lender c.insert.new.self }) c.args.path.now (λ ns. ns ++ c.args.message ∷ [])
    (group_put c.args.self.now (record { groups = c.get_mut.follows.lender c.insert.new.self }) c.args.path.now (Some c.insert.new.self) _ (w.3 (search (rules, there)))
    (c.in_ok-insert.ensures.keys ∙ rw same (put_last (messages_on c.args.self.now c.args.path.now) c.args.message c.requires.above)))

pub returns-clause-ok : goal.returns-clause-ok
returns-clause-ok c =
    let same : (q : List ℕ) → messages_on (record { groups = c.get_mut.follows.lender-at-none }) q ≡ messages_on c.args.self.now q =
    same_groups c.get_mut.follows.lender-at-none c.args.self.now.groups (search rules) in
    let there : messages_on c.args.self.now c.args.path.now ≡ [] = search rules in
    let keys : c.insert-2.new.self.keys ≡ c.args.message ∷ [] = search rules in
    λ q. group_becomes (record { groups = c.get_mut.follows.lender-at-none }) (record { groups = c.insert-3.new.self }) c.args.path.now (λ ns. ns ++ c.args.message ∷ [])
    (group_put (record { groups = c.get_mut.follows.lender-at-none }) (record { groups = c.insert-3.new.self }) c.args.path.now (Some c.insert-2.new.self) _
    (rw (← c.in_ok-path.ensures) c.in_ok-insert-3.ensures.updates)
    (rw (same c.args.path.now, there) keys)) q
    ∙ ap (λ (ns : List ℕ). if bytes_eq c.args.path.now q then ns ++ c.args.message ∷ [] else ns) (same q)

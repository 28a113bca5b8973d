use Rattle.std.proofs.Common.{◌≡◌, sym, ap, if◌then◌else◌, ◌∙◌, rules, List, ℕ}
use Rattle.std.specs.Prelude.{Option, Some, None}
use Rattle.std.specs.Ordering.{nat_cmp}
use Rattle.std.specs.Cmp.Lexicographic.{slice_cmp}
use Rattle.std.specs.BTreeMap.{BTreeMap, get}
use Rattle.cl_scope.proofs.Naming.{name_put, read_put, nothing_outside}
use Rattle.cl_types.specs.declared.types.DeclNo.{DeclNo}
use Rattle.cl_scope.specs.declared.changed.Outside.{Outside}
use Rattle.cl_scope.specs.Names.{same_space, is_name}
use Rattle.cl_scope.specs.code.Tables.{outside_in}
use Rattle.cl_scope.proofs.changed.put_name.Goals as goal

pub returns-in-Some : goal.returns-in-Some
returns-in-Some c = λ other called.
    let there : get (slice_cmp nat_cmp) c.args.table.now c.args.name.now ≡ Some c.in-Some.outside.now = search rules in
    let w = c.get_mut.follows.holds c.set.new.self in
    read_put outside_in (get (slice_cmp nat_cmp) c.args.table.now) other c.set.new.self (Some c.args.no) (same_space c.args.space other) c.args.name.now called (get (slice_cmp nat_cmp) (c.get_mut.follows.lender c.set.new.self) called)
    (name_put c.args.table.now (c.get_mut.follows.lender c.set.new.self) c.args.name.now (Some c.set.new.self) called (w.3 (search (rules, there))))
    (c.in_ok-set.ensures other ∙ ap (λ (o : Option Outside). if same_space c.args.space other then Some c.args.no else outside_in o other) (sym there))

pub returns : goal.returns
returns c = λ other called.
    let same : c.get_mut.follows.lender-at-none ≡ c.args.table.now = search rules in
    let none : get (slice_cmp nat_cmp) c.args.table.now c.args.name.now ≡ None = search rules in
    read_put outside_in (get (slice_cmp nat_cmp) c.args.table.now) other c.set-2.new.self (Some c.args.no) (same_space c.args.space other) c.args.name.now called (get (slice_cmp nat_cmp) c.insert.new.self called)
    (name_put c.get_mut.follows.lender-at-none c.insert.new.self c.args.name.now (Some c.set-2.new.self) called (rw (← c.in_ok-name.ensures) c.in_ok-insert.ensures.updates)
    ∙ ap (λ (t : BTreeMap (List ℕ) Outside). if is_name c.args.name.now called then Some c.set-2.new.self else get (slice_cmp nat_cmp) t called) same)
    (c.in_ok-set-2.ensures other ∙ ap (λ (x : Option DeclNo). if same_space c.args.space other then Some c.args.no else x) (nothing_outside c.new.result _ c.new.ensures.empty none other))

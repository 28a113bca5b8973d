use Rattle.std.proofs.Common.{◌≡◌, sym, ap, if◌then◌else◌, ◌∙◌, rules, List, ℕ}
use Rattle.std.specs.Prelude.{Option, Some}
use Rattle.std.specs.Ordering.{nat_cmp}
use Rattle.std.specs.Cmp.Lexicographic.{slice_cmp}
use Rattle.std.specs.BTreeMap.{get}
use Rattle.cl_scope.proofs.Naming.{name_put, read_put}
use Rattle.cl_scope.specs.Trail.{one_space}
use Rattle.cl_scope.specs.declared.open.Heads.{Heads}
use Rattle.cl_scope.specs.code.Open.{head_by}
use Rattle.cl_scope.proofs.open.restore.Goals as goal

pub returns-in-Some : goal.returns-in-Some
returns-in-Some c = λ other called.
    let there : get (slice_cmp nat_cmp) c.args.heads.now c.args.name.now ≡ Some c.in-Some.head.now = search rules in
    let w = c.get_mut.follows.holds c.set.new.self in
    read_put head_by (get (slice_cmp nat_cmp) c.args.heads.now) other c.set.new.self c.args.at (one_space c.args.space other) c.args.name.now called (get (slice_cmp nat_cmp) (c.get_mut.follows.lender c.set.new.self) called)
    (name_put c.args.heads.now (c.get_mut.follows.lender c.set.new.self) c.args.name.now (Some c.set.new.self) called (w.3 (search rules)))
    (c.set.ensures other ∙ ap (λ (o : Option Heads). if one_space c.args.space other then c.args.at else head_by o other) (sym there))

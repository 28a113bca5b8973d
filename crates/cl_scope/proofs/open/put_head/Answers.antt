use Rattle.std.proofs.Common.{◌≡◌, sym, ap, if◌then◌else◌, ◌∙◌, rules, List, ℕ}
use Rattle.std.specs.Prelude.{Option, Some}
use Rattle.std.specs.Ordering.{nat_cmp}
use Rattle.std.specs.Cmp.Lexicographic.{slice_cmp}
use Rattle.std.specs.BTreeMap.{get}
use Rattle.cl_scope.proofs.Naming.{name_put, read_put}
use Rattle.cl_scope.specs.Trail.{one_space}
use Rattle.cl_scope.specs.code.Open.{head_by}
use Rattle.cl_scope.proofs.open.put_head.Goals as goal

pub returns-clause-ok : goal.returns-clause-ok
returns-clause-ok c = λ other called.
    read_put head_by (get (slice_cmp nat_cmp) c.args.heads.now) other c.set.new.self c.args.at (one_space c.args.space other) c.args.name called (get (slice_cmp nat_cmp) c.insert.new.self called)
    (name_put c.args.heads.now c.insert.new.self c.args.name (Some c.set.new.self) called c.in_ok-insert.ensures.updates)
    (c.set.ensures other ∙ ap (λ (x : Option ℕ). if one_space c.args.space other then c.args.at else x) (c.heads_of-head.ensures other))

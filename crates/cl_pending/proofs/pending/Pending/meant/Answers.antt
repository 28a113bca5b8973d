use Rattle.std.proofs.Common.{◌≡◌, ap, ◌∙◌, map, filter}
use Rattle.std.specs.BTreeMap.{values}
use Rattle.cl_pending.specs.Meant.{is_meant_by, number_by}
use Rattle.cl_pending.specs.Indexes.{found_in}
use Rattle.cl_pending.proofs.Indexed.{found_all}
use Rattle.cl_pending.proofs.pending.Pending.meant.Goals as goal

pub returns : goal.returns
returns g c =
    let numbered : c.in_ok-numbers.numbers.items ≡ map (number_by g.W.Waits.key) (filter (is_meant_by g.W.Waits.key c.args.which.now) (values c.self.inside.waiting)) = rw c.self.view_is c.in_ok-numbers.ensures in
    rw (← c.self.view_is)
    (c.in_ok-found.ensures ∙ ap (found_in c.self.inside.waiting) (c.as_slice.ensures.value ∙ numbered)
    ∙ found_all g.W.Waits.key c.self.inside.waiting (is_meant_by g.W.Waits.key c.args.which.now) c.self.invariant.keyed c.self.invariant.ordered)

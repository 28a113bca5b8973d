use Rattle.std.proofs.Common.{◌≡◌, sym, ◌∙◌, rules, map, filter, true, nat_eq}
use Rattle.std.specs.Prelude.{None, slice_get}
use Rattle.std.specs.List.{AllByRecursion}
use Rattle.cl_pending.specs.Meant.{is_meant_by, number_by}
use Rattle.cl_pending.specs.Meant.{number_by}
use Rattle.cl_pending.proofs.Indexed.{passed_over, fewer, none_meant}
use Rattle.cl_pending.proofs.pending.Pending.release.Goals as goal

pub loop-message-smaller : goal.loop-message-smaller
loop-message-smaller g c =
    rw c.remove.ensures (fewer g.W.Waits.key (is_meant_by g.W.Waits.key c.args.which.now) c.in-Some.message c.loop-message.self (sym c.in-Some.is ∙ c.first.ensures.first))

pub loop-message-preserved : goal.loop-message-preserved
loop-message-preserved g c =
    let alone : AllByRecursion (λ (w : g.row.W.Denot). nat_eq (g.W.Waits.key w).message c.in-Some.message ≡ true → is_meant_by g.W.Waits.key c.args.which.now w ≡ true) c.loop-message.self = search rules in
    rw c.remove.ensures (passed_over g.W.Waits.key (is_meant_by g.W.Waits.key c.args.which.now) c.in-Some.message c.loop-message.self alone ∙ c.loop-message.invariant)

pub returns : goal.returns
returns g c =
    let none : None ≡ slice_get (map (number_by g.W.Waits.key) (filter (is_meant_by g.W.Waits.key c.args.which.now) c.loop-message.self)) 0 = search rules in
    sym (none_meant g.W.Waits.key (is_meant_by g.W.Waits.key c.args.which.now) c.loop-message.self none) ∙ c.loop-message.invariant

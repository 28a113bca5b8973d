use Rattle.std.proofs.Common.{◌≡◌, filter, not, length}
use Rattle.cl_pending.specs.Meant.{is_meant_by}
use Rattle.cl_pending.proofs.pending.Pending.release.Given as goal

abbrev pub invariant-loop-message : goal.invariant-loop-message
invariant-loop-message g l = filter (λ w. not (is_meant_by g.W.Waits.key l.which w)) l.self ≡ filter (λ w. not (is_meant_by g.W.Waits.key l.which w)) l.initial.self

abbrev pub decreases-loop-message : goal.decreases-loop-message
decreases-loop-message g l = length l.self

use Rattle.std.proofs.Common.{◌≡◌, map, take}
use Rattle.cl_core.specs.declared.event.Effect.TheVariants.{Reply}
use Rattle.cl_core.specs.Deciding.{ended}
use Rattle.cl_core.proofs.replies.ended_by.Given as goal

abbrev pub invariant-loop-waiting : goal.invariant-loop-waiting
invariant-loop-waiting l = l.effects ≡ map Reply (ended l.mark l.how (map (λ w. w.now) (take l.waiting-index l.those)))

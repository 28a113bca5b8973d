use Rattle.std.proofs.Common.{◌≡◌, length}
use Rattle.cl_scope.specs.Trail.{ended}
use Rattle.cl_scope.specs.code.Open.{trail_of, IsIndexed}
use Rattle.cl_scope.proofs.open.Open.leave.Given as goal

abbrev pub invariant-loop-slot : goal.invariant-loop-slot
invariant-loop-slot l = record {
  indexed : IsIndexed l.self-inside.slots.items l.self-inside.begin l.self-inside.heads;
  leaves : ended (trail_of l.self-inside.slots.items) ≡ ended l.fn.self;
}

abbrev pub decreases-loop-slot : goal.decreases-loop-slot
decreases-loop-slot l = length l.self-inside.slots.items

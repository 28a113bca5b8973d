use Rattle.std.proofs.Common.{◌≡◌, ◌++◌, map, drop}
use Rattle.cl_pending.specs.Indexes.{found_in}
use Rattle.cl_pending.proofs.pending.gather.Given as goal

abbrev pub invariant-loop-number : goal.invariant-loop-number
invariant-loop-number g l = map (λ w. w.now) l.found.items ++ found_in l.waiting (drop l.number-index l.numbers) ≡ found_in l.waiting l.numbers

use Rattle.std.proofs.Common.{◌≡◌, ℕ, take}
use Rattle.std.specs.Ordering.{nat_cmp}
use Rattle.std.specs.BTreeMap.{get}
use Rattle.cl_pp.specs.Lines.{told}
use Rattle.cl_pp.proofs.stray.told.Given as goal

abbrev pub invariant-loop-fault : goal.invariant-loop-fault
invariant-loop-fault l = (at : ℕ) → get nat_cmp l.map at ≡ told (take l.fault-index l.faults) at

use Rattle.std.proofs.Common.{◌≡◌, ◌++◌, take, map}
use Rattle.cl_pp.specs.Lines.{spread_fault}
use Rattle.cl_pp.proofs.open.add_all.Given as goal

abbrev pub invariant-loop-fault : goal.invariant-loop-fault
invariant-loop-fault l = l.all ≡ l.fn.all ++ map (spread_fault l.file) (take l.fault-index l.faults)

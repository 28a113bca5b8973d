use Rattle.std.proofs.Common.{◌≡◌, ◌++◌, take}
use Rattle.cl_pp.specs.Preprocessing.{open_comments}
use Rattle.cl_pp.proofs.open.open_comments.Given as goal

abbrev pub invariant-loop-fault : goal.invariant-loop-fault
invariant-loop-fault l = l.all ≡ l.fn.all ++ open_comments l.file (take l.fault-index l.faults)

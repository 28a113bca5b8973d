use Rattle.std.proofs.Common.{◌-◌, length}
use Rattle.cl_macro.proofs.Taking.{Parting}
use Rattle.cl_macro.proofs.args.parted.Given as goal

abbrev pub invariant-loop-slot : goal.invariant-loop-slot
invariant-loop-slot l = Parting l.whole l.most l.i l.from l.depth l.commas l.args

abbrev pub decreases-loop-slot : goal.decreases-loop-slot
decreases-loop-slot l = length l.whole - l.i

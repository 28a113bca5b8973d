use Rattle.std.proofs.Common.{◌≡◌, drop, map}
use Rattle.cl_types.specs.Compatible.{same_each, compared}
use Rattle.cl_types.proofs.comparing.+compare.Given as goal

abbrev pub invariant-same_each-loop-i : goal.invariant-same_each-loop-i
invariant-same_each-loop-i l = same_each (map compared (drop l.i l.ps)) (drop l.i l.qs) ≡ same_each (map compared l.ps) l.qs

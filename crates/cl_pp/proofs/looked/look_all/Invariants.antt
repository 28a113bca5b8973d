use Rattle.std.proofs.Common.{◌≡◌, length}
use Rattle.cl_pp.specs.Standing.{with_looked}
use Rattle.cl_pp.specs.code.Keeping.{Sees}
use Rattle.cl_pp.proofs.looked.look_all.Given as goal

abbrev pub invariant-loop-name : goal.invariant-loop-name
invariant-loop-name l = (with_looked l.names l.fn.made.done ≡ with_looked l.rest l.made.done) × Sees l.made

abbrev pub decreases-loop-name : goal.decreases-loop-name
decreases-loop-name l = length l.rest

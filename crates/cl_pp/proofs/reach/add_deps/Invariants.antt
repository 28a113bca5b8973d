use Rattle.std.proofs.Common.{◌≡◌, ◌++◌, take}
use Rattle.cl_pp.proofs.reach.add_deps.Given as goal

abbrev pub invariant-loop-dep : goal.invariant-loop-dep
invariant-loop-dep l = l.deps ≡ l.initial.deps ++ take l.dep-index l.asked

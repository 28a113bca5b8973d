use Rattle.std.proofs.Common.{◌≡◌, ◌++◌, reverse, length, false}
use Rattle.cl_macro.specs.Params.{needed_from}
use Rattle.cl_macro.proofs.needed.asked.Given as goal

abbrev pub invariant-loop-arg : goal.invariant-loop-arg
invariant-loop-arg l = needed_from l.mac false 0 l.fn.args ≡ needed_from l.mac false 0 l.args ++ reverse l.all

abbrev pub decreases-loop-arg : goal.decreases-loop-arg
decreases-loop-arg l = length l.args

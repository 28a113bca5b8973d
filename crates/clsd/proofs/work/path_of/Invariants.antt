use Rattle.std.proofs.Common.{◌≡◌, drop}
use Rattle.cl_core.specs.Standing.{loads_of}
use Rattle.clsd.proofs.work.path_of.Given as goal

abbrev pub invariant-loop-effect : goal.invariant-loop-effect
invariant-loop-effect l = loads_of l.effects ≡ loads_of (drop l.effect-index l.effects)

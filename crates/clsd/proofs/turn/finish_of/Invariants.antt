use Rattle.std.proofs.Common.{◌≡◌, drop}
use Rattle.cl_core.specs.Standing.{finish_of}
use Rattle.clsd.proofs.turn.finish_of.Given as goal

abbrev pub invariant-loop-effect : goal.invariant-loop-effect
invariant-loop-effect l = finish_of l.effects ≡ finish_of (drop l.effect-index l.effects)

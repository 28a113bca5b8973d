use Rattle.std.proofs.Common.{◌≡◌, drop}
use Rattle.cl_core.specs.Standing.{jobs_of}
use Rattle.clsd.proofs.turn.job_of.Given as goal

abbrev pub invariant-loop-effect : goal.invariant-loop-effect
invariant-loop-effect l = jobs_of l.effects ≡ jobs_of (drop l.effect-index l.effects)

use Rattle.std.proofs.Common.{◌≡◌, length}
use Rattle.cl_macro.specs.Params.{is_needed, stands}
use Rattle.cl_macro.proofs.needed.is_needed.Given as goal

abbrev pub invariant-loop-token : goal.invariant-loop-token
invariant-loop-token l = is_needed l.mac l.raw l.i ≡ stands l.mac l.raw l.i l.after l.hash l.rest

abbrev pub decreases-loop-token : goal.decreases-loop-token
decreases-loop-token l = length l.rest

use Rattle.std.proofs.Common.{◌≡◌, length}
use Rattle.cl_macro.specs.code.Flat.{are_tame}
use Rattle.cl_macro.proofs.alone.are_tame.Given as goal

abbrev pub invariant-loop-word : goal.invariant-loop-word
invariant-loop-word l = are_tame l.names l.words ≡ are_tame l.names l.rest

abbrev pub decreases-loop-word : goal.decreases-loop-word
decreases-loop-word l = length l.rest

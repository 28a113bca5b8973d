use Rattle.std.proofs.Common.{◌≡◌, length}
use Rattle.cl_const.specs.Characters.{are_chars}
use Rattle.cl_const.proofs.characters.are_chars.Given as goal

abbrev pub invariant-loop-rest : goal.invariant-loop-rest
invariant-loop-rest l = are_chars l.char_type 0 l.body ≡ are_chars l.char_type 0 l.rest

abbrev pub decreases-loop-rest : goal.decreases-loop-rest
decreases-loop-rest l = length l.rest

use Rattle.cl_scope.proofs.Begun.{nothing_sound}
use Rattle.cl_scope.proofs.laws.nothing_is_sound.Goals as goal

pub returns : goal.returns
returns c = nothing_sound

use Rattle.std.proofs.Common.{◌≡◌, length}
use Rattle.cl_define.specs.code.Reading.{some_params, with_names}
use Rattle.cl_define.proofs.params.some_params.Given as goal

abbrev pub invariant-loop-token : goal.invariant-loop-token
invariant-loop-token l = with_names l.names (some_params l.rest) ≡ some_params l.tokens

abbrev pub decreases-loop-token : goal.decreases-loop-token
decreases-loop-token l = length l.rest

use Rattle.std.proofs.Common.{◌≡◌, length}
use Rattle.std.specs.Cmp.Lexicographic.{pointwise}
use Rattle.cl_define.specs.code.Tokens.{same_token}
use Rattle.cl_define.proofs.same.same_tokens.Given as goal

abbrev pub invariant-loop-this : goal.invariant-loop-this
invariant-loop-this l = pointwise same_token l.these l.those ≡ pointwise same_token l.a l.b

abbrev pub decreases-loop-this : goal.decreases-loop-this
decreases-loop-this l = length l.these

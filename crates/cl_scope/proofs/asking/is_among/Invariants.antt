use Rattle.std.proofs.Common.{◌≡◌, drop}
use Rattle.cl_scope.specs.Steps.{is_open}
use Rattle.cl_scope.proofs.asking.is_among.Given as goal

abbrev pub invariant-loop-within : goal.invariant-loop-within
invariant-loop-within l = is_open (drop l.within-index l.levels) l.tag ≡ is_open l.levels l.tag

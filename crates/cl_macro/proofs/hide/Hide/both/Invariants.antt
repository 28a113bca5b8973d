use Rattle.std.proofs.Common.{◌≡◌, take}
use Rattle.cl_macro.specs.Words.{both}
use Rattle.cl_macro.proofs.hide.Hide.both.Given as goal

abbrev pub invariant-loop-n : goal.invariant-loop-n
invariant-loop-n l = l.names.items ≡ both (take l.n-index l.n-items) l.other

use Rattle.std.proofs.Common.{◌≡◌, take, true}
use Rattle.cl_macro.specs.Params.{needed_from}
use Rattle.cl_macro.proofs.needed.raws.Given as goal

abbrev pub invariant-loop-arg : goal.invariant-loop-arg
invariant-loop-arg l = l.all ≡ needed_from l.mac true 0 (take l.arg-index l.arg-items)

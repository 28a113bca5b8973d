use Rattle.std.proofs.Common.{◌≡◌, ◌++◌, drop}
use Rattle.std.specs.Ordering.{nat_cmp}
use Rattle.std.specs.BTreeMap.{get}
use Rattle.cl_pp.specs.Lines.{strays}
use Rattle.cl_pp.proofs.stray.strays.Given as goal

abbrev pub invariant-loop-token : goal.invariant-loop-token
invariant-loop-token l = l.fn.faults ++ strays l.file (get nat_cmp l.told) l.line ≡ l.faults ++ strays l.file (get nat_cmp l.told) (drop l.token-index l.line)

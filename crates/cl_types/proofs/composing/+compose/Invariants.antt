use Rattle.std.proofs.Common.{◌≡◌, ◌++◌, drop, map}
use Rattle.cl_types.specs.Composite.{compose_each, composed}
use Rattle.cl_types.proofs.composing.+compose.Given as goal

abbrev pub invariant-composite_each-loop-i : goal.invariant-composite_each-loop-i
invariant-composite_each-loop-i l = l.types ++ compose_each (map composed (drop l.i l.ps)) (drop l.i l.qs) ≡ compose_each (map composed l.ps) l.qs

use Rattle.std.proofs.Common.{List, ◌++◌, length}
use Rattle.cl_base.specs.declared.macros.Macro.{Macro}
use Rattle.cl_macro.specs.Starting.{Given}
use Rattle.cl_macro.proofs.start.given.Given as goal

abbrev pub invariant-loop-define : goal.invariant-loop-define
invariant-loop-define l = (later : List Macro) → Given l.rest later → Given l.fn.defines (l.macros ++ later)

abbrev pub decreases-loop-define : goal.decreases-loop-define
decreases-loop-define l = length l.rest

use Rattle.std.proofs.Common.{◌≡◌, ◌++◌, length}
use Rattle.cl_pp.specs.code.Keeping.{lookup}
use Rattle.cl_pp.specs.code.Deciding.{decided_from}
use Rattle.cl_pp.proofs.defined.decided.Given as goal

abbrev pub invariant-loop-token : goal.invariant-loop-token
invariant-loop-token g l = decided_from l.file (lookup (g.B.MacroBase.macros l.base) l.table) 0 l.tokens ≡ l.all ++ decided_from l.file (lookup (g.B.MacroBase.macros l.base) l.table) 0 l.rest

abbrev pub decreases-loop-token : goal.decreases-loop-token
decreases-loop-token g l = length l.rest

use Rattle.std.proofs.Common.{◌≡◌, ◌++◌, ◌≤◌, length}
use Rattle.cl_pp.specs.Places.{MarksLie}
use Rattle.cl_pp.specs.Runs.{runs, runs_behind}
use Rattle.cl_pp.proofs.run.runs.Given as goal

abbrev pub invariant-loop-mark : goal.invariant-loop-mark
invariant-loop-mark l = (runs l.tokens l.marks ≡ l.all ++ runs_behind l.tokens l.run l.rest) × (l.run.from ≤ l.run.to) × MarksLie l.run.to (length l.tokens) l.rest

abbrev pub decreases-loop-mark : goal.decreases-loop-mark
decreases-loop-mark l = length l.rest

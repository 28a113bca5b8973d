use Rattle.std.proofs.Common.{◌≤◌, ◌-◌, ◌++◌, List, length}
use Rattle.cl_cond.specs.declared.mark.Mark.{Mark}
use Rattle.cl_cond.specs.Lines.{Lines}
use Rattle.cl_cond.proofs.lines.lines.Given as goal

abbrev pub invariant-loop-at : goal.invariant-loop-at
invariant-loop-at l = record {
  within : l.at ≤ length l.tokens;
  tiles : (rest : List Mark) → Lines l.tokens l.at rest → Lines l.tokens 0 (l.lines ++ rest);
}

abbrev pub decreases-loop-at : goal.decreases-loop-at
decreases-loop-at l = length l.tokens - l.at

use Rattle.std.proofs.Common.{◌-◌, length}
use Rattle.cl_parse.specs.Extents.{AtDepth}
use Rattle.cl_parse.proofs.Marked.{NoSign}
use Rattle.cl_parse.proofs.marks.first.Given as goal

abbrev pub invariant-loop-at : goal.invariant-loop-at
invariant-loop-at l = record {
  depth : AtDepth l.pairs l.from l.at;
  none : NoSign l.tokens l.pairs l.sign l.from l.at;
}

abbrev pub decreases-loop-at : goal.decreases-loop-at
decreases-loop-at l = length l.tokens - l.at

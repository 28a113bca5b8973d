use Rattle.std.proofs.Common.{◌-◌, length}
use Rattle.cl_parse.specs.Extents.{AtDepth}
use Rattle.cl_parse.proofs.Depths.{NoStop, Signs}
use Rattle.cl_parse.proofs.extent.last.Given as goal

abbrev pub invariant-loop-at : goal.invariant-loop-at
invariant-loop-at l = record {
  depth : AtDepth l.pairs l.from l.at;
  none : NoStop l.tokens l.pairs l.from l.at;
  signs : Signs l.tokens l.pairs l.from l.at l.equal;
}

abbrev pub decreases-loop-at : goal.decreases-loop-at
decreases-loop-at l = length l.tokens - l.at

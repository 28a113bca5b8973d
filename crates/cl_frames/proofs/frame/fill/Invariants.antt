use Rattle.std.proofs.Common.{length, ◌-◌, ◌≤◌, ◌≡◌, take}
use Rattle.std.specs.Io.KnownBytes.{prepend_known}
use Rattle.cl_frames.proofs.frame.fill.Given as goal

abbrev pub invariant-loop-count : goal.invariant-loop-count
invariant-loop-count g l = record {
  within : l.count ≤ length l.piece;
  faults : g.S.Source.faults l.fn.source ≤ g.S.Source.faults l.source;
  read : g.S.Source.left l.fn.source ≡ prepend_known (take l.count l.piece) (g.S.Source.left l.source);
}

abbrev pub decreases-loop-count : goal.decreases-loop-count
decreases-loop-count g l = length l.initial.piece - l.count

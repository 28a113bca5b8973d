use Rattle.std.proofs.Common.{◌≡◌, length, take, ◌-◌, ◌≤◌}
use Rattle.std.specs.Io.KnownBytes.{append_known}
use Rattle.cl_frames.proofs.write.write_frame.Given as goal

abbrev pub invariant-loop-at : goal.invariant-loop-at
invariant-loop-at g l = record {
  within : l.at ≤ length l.piece;
  count : g.K.Sink.faults l.fn.sink ≤ g.K.Sink.faults l.sink;
  held : g.K.Sink.held l.sink ≡ append_known (g.K.Sink.held l.fn.sink) (take l.at l.piece);
}

abbrev pub decreases-loop-at : goal.decreases-loop-at
decreases-loop-at g l = length l.piece - l.at

use Rattle.std.proofs.Common.{◌≡◌, ◌≤◌, ◌++◌, List, ℕ, drop}
use Rattle.std.specs.Io.KnownBytes.{append_known}
use Rattle.cl_core.specs.Standing.{frames_of}
use Rattle.clsd.proofs.turn.write_replies.Given as goal

abbrev pub invariant-loop-effect : goal.invariant-loop-effect
invariant-loop-effect g l = record {
  count : g.K.Sink.faults l.fn.sink ≤ g.K.Sink.faults l.sink;
  written : (front : List ℕ) × (frames_of l.effects ≡ front ++ frames_of (drop l.effect-index l.effects)) × (g.K.Sink.held l.sink ≡ append_known (g.K.Sink.held l.fn.sink) front);
}

use Rattle.std.proofs.Common.{◌≡◌, ◌<◌, ◌≤◌, ◌^◌, ℕ, List, []}
use Rattle.std.specs.Prelude.{Some, None}
use Rattle.cl_base.specs.declared.config.Settings.{Settings}
use Rattle.cl_history.specs.Given.{Given}
use Rattle.cl_core.specs.Standing.{IsIdle, StandsFor}
use Rattle.clsd.proofs.Going.{Goes}
use Rattle.clsd.proofs.session.run.Given as goal

abbrev pub invariant-loop-count : goal.invariant-loop-count
invariant-loop-count g l = record {
  last : l.frames.last ≡ None;
  room : l.frames.taken < 2 ^ 40;
  grows : l.count ≤ l.frames.taken;
  idle : IsIdle l.core;
  source : g.S.Source.faults l.fn.source ≤ g.S.Source.faults l.source;
  sink : g.K.Sink.faults l.fn.sink ≤ g.K.Sink.faults l.sink;
  headers : g.H.HeaderSource.faults l.fn.headers ≤ g.H.HeaderSource.faults l.headers;
  goes : (config : Settings) (bytes : List ℕ) → ((given : Given) → given.config ≡ config → StandsFor given l.fn.core) → g.S.Source.left l.fn.source ≡ Some bytes → g.K.Sink.held l.fn.sink ≡ Some []
      → Goes config bytes (g.H.HeaderSource.reads l.fn.headers) (g.H.HeaderSource.reads l.headers) (g.H.HeaderSource.faults l.fn.headers) (g.H.HeaderSource.faults l.headers)
      l.frames.taken (g.S.Source.left l.source) (g.K.Sink.held l.sink) l.core;
}

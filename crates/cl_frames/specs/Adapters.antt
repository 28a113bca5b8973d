-- What the adapters have left and hold.
use Rattle.std.specs.Prelude.{ℕ, List, slice_range, Option}
use Rattle.std.specs.Io.KnownBytes.{prepend_known}
use Rattle.cl_frames.specs.declared.std_source.StdSource.{StdSource}
use Rattle.cl_frames.specs.declared.std_sink.StdSink.{StdSink}

-- the bytes that a source over a reader has left: those that it read ahead, and then the reader's, where these are known
abbrev pub source_left : {R : Type 0} → (R → Option (List ℕ)) → StdSource R → Option (List ℕ)
source_left remaining s = prepend_known (slice_range s.buffer.items s.at s.end) (remaining s.inner)

-- the bytes that a sink over a writer has handed down, where the writer tells what it holds
abbrev pub sink_holds : {W : Type 0} → (W → Option (List ℕ)) → StdSink W → Option (List ℕ)
sink_holds contents s = contents s.inner

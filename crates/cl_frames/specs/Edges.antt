-- What an adapter over a reader or a writer hands on, where the inner object tells what it has left or what it holds.
use Rattle.std.specs.Prelude.{◌≡◌, ℕ, ◌<◌, ◌≤◌, List, length, take, Option}
use Rattle.std.specs.Io.KnownBytes.{IsAtEnd, Keeps, Consumes, Appends}
use Rattle.cl_frames.specs.declared.outside.Got.{Got}
use Rattle.cl_frames.specs.declared.outside.Got.TheVariants as got
use Rattle.cl_frames.specs.declared.outside.Took.{Took}
use Rattle.cl_frames.specs.declared.outside.Took.TheVariants as took

-- a read gave the first n bytes that were left, and none only at the end or with no room; a fault lost none
abbrev pub HandsOn : Option (List ℕ) → Option (List ℕ) → List ℕ → Got → Type 0
HandsOn old new buf (got.Bytes n) = Consumes old new (take n buf) × (n ≡ 0 → 0 < length buf → IsAtEnd new)
HandsOn old new buf got.Failed = Keeps old new

-- a write added the first n bytes of the piece; at a fault of the writer or of its flush a front of the piece
abbrev pub HandsDown : Option (List ℕ) → Option (List ℕ) → List ℕ → Took → Type 0
HandsDown old new piece (took.Bytes n) = Appends old new (take n piece)
HandsDown old new piece took.Failed = (n : ℕ) × (n ≤ length piece) × Appends old new (take n piece)

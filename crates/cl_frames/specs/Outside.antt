-- What a call of an outside object gives and leaves. A count of faults never falls.
use Rattle.std.specs.Prelude.{◌≡◌, ℕ, ◌<◌, ◌≤◌, List, length, take, Option}
use Rattle.std.specs.Io.KnownBytes.{IsAtEnd, append_known, prepend_known}
use Rattle.cl_base.specs.Faults.{Rose}
use Rattle.cl_frames.specs.declared.outside.Got.{Got}
use Rattle.cl_frames.specs.declared.outside.Got.TheVariants as got
use Rattle.cl_frames.specs.declared.outside.Took.{Took}
use Rattle.cl_frames.specs.declared.outside.Took.TheVariants as took
use Rattle.cl_frames.specs.declared.write.Written.{Written}
use Rattle.cl_frames.specs.declared.write.Written.TheVariants as written

-- a read into `buf` gave the first n bytes that were left, and none only at the end or with no room
abbrev pub Gives : Option (List ℕ) → Option (List ℕ) → List ℕ → Got → Type 0
Gives old new buf (got.Bytes n) = (n ≤ length buf) × (old ≡ prepend_known (take n buf) new) × (n ≡ 0 → 0 < length buf → IsAtEnd new)
Gives old new buf got.Failed = new ≡ old

-- a read failed only where the count rose
abbrev pub GotCause : ℕ → ℕ → Got → Type 0
GotCause before now (got.Bytes n) = before ≤ now
GotCause before now got.Failed = (before ≤ now) × Rose before now

-- a write added the first n bytes of `piece`
abbrev pub Takes : Option (List ℕ) → Option (List ℕ) → List ℕ → Took → Type 0
Takes old new piece (took.Bytes n) = (n ≤ length piece) × (new ≡ append_known old (take n piece))
Takes old new piece took.Failed = new ≡ old

-- a write failed, or took nothing of a piece that isn't empty, only where the count rose
abbrev pub TookCause : ℕ → ℕ → List ℕ → Took → Type 0
TookCause before now piece (took.Bytes n) = (before ≤ now) × (n ≡ 0 → 0 < length piece → Rose before now)
TookCause before now piece took.Failed = (before ≤ now) × Rose before now

-- all of a frame was added, or its first bytes, of which there are `taken`
abbrev pub Writes : Option (List ℕ) → Option (List ℕ) → List ℕ → Written → Type 0
Writes old new frame written.All = new ≡ append_known old frame
Writes old new frame (written.Failed taken) = (taken ≤ length frame) × (new ≡ append_known old (take taken frame))

-- a write of a frame failed only where the count rose
abbrev pub WriteCause : ℕ → ℕ → Written → Type 0
WriteCause before now written.All = before ≤ now
WriteCause before now (written.Failed taken) = (before ≤ now) × Rose before now

-- What the parts of a reader of frames take and find. `front` and `part` are the bytes that a call took.
use Rattle.std.specs.Prelude.{◌≡◌, ◌≢◌, ℕ, ◌+◌, ◌<◌, ◌≤◌, ◌^◌, List, [], ◌∷◌, ◌++◌, length, drop, Option, codes}
use Rattle.std.specs.Io.KnownBytes.{IsAtEnd, prepend_known}
use Rattle.cl_frames.specs.Frames.{First, cut, wrong, first, after, length_from, body_from}
use Rattle.cl_frames.specs.declared.next_byte.Next.{Next}
use Rattle.cl_frames.specs.declared.next_byte.Next.TheVariants as next
use Rattle.cl_frames.specs.declared.header.Stage.{Stage}
use Rattle.cl_frames.specs.declared.header.Stage.TheVariants as stage
use Rattle.cl_frames.specs.declared.header.Step.{Step}
use Rattle.cl_frames.specs.declared.header.Step.TheVariants as step
use Rattle.cl_frames.specs.declared.header.Header.{Header}
use Rattle.cl_frames.specs.declared.header.Header.TheVariants as header
use Rattle.cl_frames.specs.declared.frame.Frame.{Frame}
use Rattle.cl_frames.specs.declared.frame.Frame.TheVariants as frame

abbrev pub GivesNext : Option (List ℕ) → Option (List ℕ) → Next → Type 0
GivesNext old new (next.Byte byte) = old ≡ prepend_known (byte ∷ []) new
GivesNext old new next.End = (new ≡ old) × IsAtEnd old
GivesNext old new next.Failed = new ≡ old

-- how many bytes of a header a stage stands for
abbrev pub stage_size : Stage → ℕ
stage_size (stage.Name at) = at
stage_size (stage.Length digits value) = 16 + digits
stage_size (stage.Ending at digits value) = 16 + digits + at

abbrev pub IsStage : Stage → Type 0
IsStage (stage.Name at) = at < 16
IsStage (stage.Length digits value) = (digits ≤ 8) × (value ≤ 67108864)
IsStage (stage.Ending at digits value) = (at < 4) × (digits ≤ 8) × (value ≤ 67108864)

-- what the bytes after a stage make of it
abbrev pub from_stage : Stage → List ℕ → First
from_stage (stage.Name at) bytes = after (drop at (codes "Content-Length: ")) (length_from 0 0) bytes
from_stage (stage.Length digits value) bytes = length_from digits value bytes
from_stage (stage.Ending at digits value) bytes = after (drop at (codes "\r\n\r\n")) (body_from digits value) bytes

-- one byte more
abbrev pub StepsTo : Stage → ℕ → Step → Type 0
StepsTo old byte (step.More new) =
    IsStage new × (stage_size new ≡ stage_size old + 1) × ((rest : List ℕ) → from_stage old (byte ∷ rest) ≡ from_stage new rest)
StepsTo old byte (step.Whole digits size) =
    (size ≤ 67108864) × (20 + digits ≡ stage_size old + 1) × ((rest : List ℕ) → from_stage old (byte ∷ rest) ≡ body_from digits size rest)
StepsTo old byte step.Wrong = (rest : List ℕ) → from_stage old (byte ∷ rest) ≡ wrong

-- what was found of a header says of the bytes that were taken for it
abbrev pub TellsHeader : List ℕ → ℕ → Option (List ℕ) → Header → Type 0
TellsHeader front now new (header.Whole digits size) =
    (now < 2 ^ 40) × (size ≤ 67108864) × (20 + digits ≡ length front) × ((rest : List ℕ) → first (front ++ rest) ≡ body_from digits size rest)
TellsHeader front now new header.End = (now < 2 ^ 40) × (front ≡ []) × IsAtEnd new
TellsHeader front now new header.Short = (now < 2 ^ 40) × (front ≢ []) × IsAtEnd new × (first front ≡ cut)
TellsHeader front now new header.Wrong = (now < 2 ^ 40) × ((rest : List ℕ) → first (front ++ rest) ≡ wrong)
TellsHeader front now new header.Failed = (now < 2 ^ 40) × (first front ≡ cut)
TellsHeader front now new header.Long =
    (now ≡ 2 ^ 40) × ((before : List ℕ) × (byte : ℕ) × (front ≡ before ++ byte ∷ []) × (first before ≡ cut))

pub record TakesHeader (at now : ℕ) (old new : Option (List ℕ)) (found : Header) : Type 0 where
  pub front : List ℕ
  pub read : old ≡ prepend_known front new
  pub now_is : now ≡ at + length front
  pub tells : TellsHeader front now new found

-- what an answer says of the bytes that were taken for a body of `size` bytes
abbrev pub TellsBody : ℕ → ℕ → List ℕ → ℕ → Option (List ℕ) → Frame → Type 0
TellsBody offset size part now new (frame.Body text) = (now < 2 ^ 40) × (part ≡ text) × (length part ≡ size)
TellsBody offset size part now new frame.End = ⊥
TellsBody offset size part now new (frame.Bad at) = (now < 2 ^ 40) × (at ≡ offset) × (length part < size) × IsAtEnd new
TellsBody offset size part now new frame.Failed = (now < 2 ^ 40) × (length part < size)
TellsBody offset size part now new frame.Long = (now ≡ 2 ^ 40) × (length part ≤ size)
TellsBody offset size part now new frame.Memory = now ≤ 2 ^ 40

pub record TakesBody (offset size at now : ℕ) (old new : Option (List ℕ)) (answer : Frame) : Type 0 where
  pub part : List ℕ
  pub read : old ≡ prepend_known part new
  pub now_is : now ≡ at + length part
  pub tells : TellsBody offset size part now new answer

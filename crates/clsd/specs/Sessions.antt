-- What a whole session is: what it took, what it read, what it answered, and how it ended.
use Rattle.std.specs.Prelude.{◌≡◌, ◌⊎◌, ℕ, ◌^◌, ◌≤◌, List, [], ◌∷◌, ◌++◌, length, map, reverse, Bool, true, false, if◌then◌else◌, Option, Some, option_map, IsTrue}
use Rattle.cl_frames.specs.Sessions.{SplitsInto, edge, bad, long, after_last}
use Rattle.cl_frames.specs.Sessions as frames
use Rattle.cl_base.specs.Faults.{HasCause, Rose}
use Rattle.cl_base.specs.Reads.{Reads}
use Rattle.cl_base.specs.declared.headers.Read.TheVariants.{Failed}
use Rattle.cl_rpc.specs.declared.call.Parsed.{Parsed}
use Rattle.cl_rpc.specs.declared.out.How.{How}
use Rattle.cl_rpc.specs.declared.out.How.TheVariants as how
use Rattle.cl_rpc.specs.Messages.{message_in}
use Rattle.cl_rpc.specs.Classes.{class_of}
use Rattle.cl_query.specs.AnswerOf.{AnswerOf, NeedsOf}
use Rattle.cl_base.specs.declared.config.Settings.{Settings}
use Rattle.cl_history.specs.declared.entry.Entry.{Entry}
use Rattle.cl_history.specs.declared.entry.Entry.TheVariants.{In, Load, Reply, Notify}
use Rattle.cl_history.specs.Given.{Given, received, loaded}
use Rattle.cl_history.specs.History.{is_shut_down, pending}
use Rattle.cl_history.specs.Legal.{IsLegal, IsSettled}
use Rattle.cl_history.specs.Written.{Writes}
use Rattle.cl_history.specs.Refusals.{is_exit}

-- the body is that of an `exit`, after which nothing is read
abbrev pub is_last : List ℕ → Bool
is_last body = is_exit (class_of (message_in body))

-- what bodies say
abbrev pub messages_in : List (List ℕ) → List Parsed
messages_in bodies = map message_in bodies

-- what a session of these bodies is given, which made these reads of headers
abbrev pub given_of : Settings → List (List ℕ) → Reads → Given
given_of config bodies reads = record { config = config; messages = messages_in bodies; reads = reads }

-- one of these reads failed
abbrev pub HasFailed : Reads → Type 0
HasFailed [] = ⊥
HasFailed (read ∷ reads) = (read.1 ≡ Failed) ⊎ HasFailed reads

-- these reads more, where the reads are told
abbrev pub add_reads : Option Reads → Reads → Option Reads
add_reads told reads = option_map (λ (all : Reads). all ++ reads) told

-- these reads were made: a header source that tells its reads tells them after those before, and its count of faults rose where one of
-- them failed
pub record MakesReads (told_before told_now : Option Reads) (faults_before faults_now : ℕ) (reads : Reads) : Type 0 where
  pub told : told_now ≡ add_reads told_before reads
  pub cause : HasCause faults_before faults_now (HasFailed reads)

-- how a session ended: after an `exit`; at the end of the input, at a frame's edge; at bytes that are no frame; with
-- more bytes than a session may have; by a fault of the source; by one of the sink; for want of memory
pub data Close : Type 0 where
  at_exit : Close
  at_edge : Close
  at_bad : Close
  at_long : Close
  at_source : Close
  at_sink : Close
  at_memory : Close

-- it wasn't cut off by the sink or for want of memory
abbrev pub is_whole : Close → Bool
is_whole at_sink = false
is_whole at_memory = false
is_whole _ = true

-- no body was the last
abbrev pub NoneLast : frames.Ending → Type 0
NoneLast (after_last rest) = ⊥
NoneLast _ = Unit {0}

-- the status of a session that ended so, and the offset that it tells; `ends` is how the bytes that were taken end
abbrev pub StatusIs : Close → (shut_down : Bool) → frames.Ending → (status at : ℕ) → Type 0
StatusIs at_exit shut_down ends status at = (status ≡ (if shut_down then 0 else 1)) × (at ≡ 0) × (ends ≡ after_last [])
StatusIs at_edge shut_down ends status at = (status ≡ 2) × (at ≡ 0) × (ends ≡ edge)
StatusIs at_bad shut_down ends status at = (status ≡ 3) × NoneLast ends
StatusIs at_long shut_down ends status at = (status ≡ 8) × (at ≡ 0) × (ends ≡ long)
StatusIs at_source shut_down ends status at = (status ≡ 4) × (at ≡ 0) × NoneLast ends
StatusIs at_sink shut_down ends status at = (status ≡ 5) × (at ≡ 0)
StatusIs at_memory shut_down ends status at = (status ≡ 7) × (at ≡ 0)

-- what is left unread: what stands behind the `exit`; nothing at the end of the input; and bytes that are no frame, or
-- too many, are so among all of the source's
abbrev pub LeavesUnread : Close → (bytes taken rest : List ℕ) → List (List ℕ) → ℕ → Type 0
LeavesUnread at_exit bytes taken rest bodies at = SplitsInto is_last 0 bytes bodies (after_last rest)
LeavesUnread at_edge bytes taken rest bodies at = rest ≡ []
LeavesUnread at_bad bytes taken rest bodies at = SplitsInto is_last 0 bytes bodies (bad at)
LeavesUnread at_long bytes taken rest bodies at = (length taken ≡ 2 ^ 40) × SplitsInto is_last 0 bytes bodies long
LeavesUnread _ bytes taken rest bodies at = Unit {0}

-- the messages of the journal are the first ones of the bodies that were taken, and all of them where the session was whole
pub record Takes (close : Close) (taken : List ℕ) (bodies : List (List ℕ)) (ends : frames.Ending) (past : List Entry) : Type 0 where
  pub framed : SplitsInto is_last 0 taken bodies ends
  pub first : received past ≤ length bodies
  pub all : IsTrue (is_whole close) → received past ≡ length bodies

-- the reads of the journal are the first ones of those that were made, and all of them where the session was whole
pub record Loads (close : Close) (reads : Reads) (past : List Entry) : Type 0 where
  pub first : loaded past ≤ length reads
  pub all : IsTrue (is_whole close) → loaded past ≡ length reads

-- the sink holds what the journal writes, or a front of it where the session was cut off
pub record Writing (close : Close) (given : Given) (past : List Entry) (held : Option (List ℕ)) : Type 0 where
  pub now : List ℕ
  pub unwritten : List ℕ
  pub held_is : held ≡ Some now
  pub writes : Writes AnswerOf given past (now ++ unwritten)
  pub all : IsTrue (is_whole close) → unwritten ≡ []

-- without workers no request is ended early
abbrev pub IsInTime : How → Type 0
IsInTime how.Answered = Unit {0}
IsInTime how.Cancelled = ⊥
IsInTime how.Modified = ⊥
IsInTime how.Refused = Unit {0}
IsInTime how.Memory = Unit {0}

abbrev pub AreInTime : List Entry → Type 0
AreInTime [] = Unit {0}
AreInTime (In n ∷ past) = AreInTime past
AreInTime (Load n ∷ past) = AreInTime past
AreInTime (Reply message mark how ∷ past) = IsInTime how × AreInTime past
AreInTime (Notify message mark ∷ past) = AreInTime past

-- what a session owes whatever server ran it, with this config, over these bytes of its source, which left `left` of them, and these reads that it made; its
-- sink was empty and now holds `held`. It owes this of its journal, its status `code`, and the offset that it tells
pub record Session (config : Settings) (bytes : List ℕ) (reads : Reads) (left held : Option (List ℕ)) (journal : List Entry) (code offset : ℕ) : Type 0 where
  pub taken : List ℕ
  pub rest : List ℕ
  pub parts : bytes ≡ taken ++ rest
  pub left_is : left ≡ Some rest
  pub bodies : List (List ℕ)
  pub ends : frames.Ending
  pub close : Close
  pub messages : Takes close taken bodies ends (reverse journal)
  pub loads : Loads close reads (reverse journal)
  pub legal : IsLegal NeedsOf (given_of config bodies reads) (reverse journal)
  pub written : Writing close (given_of config bodies reads) (reverse journal) held
  pub status : StatusIs close (is_shut_down (given_of config bodies reads) (reverse journal)) ends code offset
  pub whole : IsTrue (is_whole close) → pending (given_of config bodies reads) (reverse journal) ≡ []
  pub unread : LeavesUnread close bytes taken rest bodies offset

-- what only a server without workers owes besides: no request is pending where a message is received, and none is ended early
pub record SerialSession (config : Settings) (bytes : List ℕ) (reads : Reads) (left held : Option (List ℕ)) (journal : List Entry) (code offset : ℕ) : Type 0 where
  pub session : Session config bytes reads left held journal code offset
  pub settled : IsSettled (given_of config session.bodies reads) (reverse journal)
  pub in_time : AreInTime (reverse journal)

-- a count of faults that didn't rise
abbrev pub StoodStill : ℕ → ℕ → Type 0
StoodStill before now = Rose before now → ⊥

-- the status of a session whose input has an `exit`, where nothing failed
abbrev pub RanToTheEnd : ℕ → Type 0
RanToTheEnd code = (code ≡ 0) ⊎ ((code ≡ 1) ⊎ (code ≡ 7))

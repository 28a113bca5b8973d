-- What a session that is served keeps from message to message. `held` is what its sink holds.
use Rattle.std.specs.Prelude.{◌≡◌, ◌⊎◌, ℕ, ◌+◌, ◌≤◌, List, [], ◌∷◌, ◌++◌, length, true, false, if◌then◌else◌, Option, Some, None, Result, Ok, Err, slice_get}
use Rattle.cl_base.specs.Reads.{Reads}
use Rattle.cl_base.specs.declared.memory.Memory.{Memory}
use Rattle.cl_query.specs.declared.job.Job.{Job}
use Rattle.cl_rpc.specs.declared.call.Parsed.{Parsed}
use Rattle.cl_core.specs.declared.core_state.Core.{Core}
use Rattle.cl_rpc.specs.Replies.{reply_frame}
use Rattle.cl_core.specs.declared.event.Effect.{Effect}
use Rattle.cl_core.specs.declared.event.Effect.TheVariants as effect
use Rattle.cl_core.specs.declared.event.Event.{Event}
use Rattle.cl_core.specs.declared.event.Event.TheVariants as event
use Rattle.cl_query.specs.AnswerOf.{AnswerOf}
use Rattle.cl_history.specs.Given.{Given}
use Rattle.cl_history.specs.History.{is_shut_down, pending}
use Rattle.cl_history.specs.Legal.{IsSettled}
use Rattle.cl_history.specs.Written.{Writes}
use Rattle.cl_rpc.specs.Classes.{class_of}
use Rattle.cl_core.specs.declared.event.Ending.{Ending}
use Rattle.cl_history.specs.Refusals.{is_exit}
use Rattle.cl_core.specs.Steps.{status_of}
use Rattle.cl_core.specs.Standing.{AwaitsRead, IsIdle, StandsFor, WorksOn, messages_taken, past_of, reads_taken}
use Rattle.clsd.specs.declared.session.Ended.{Ended}
use Rattle.clsd.specs.declared.turn.Turn.{Turn}
use Rattle.clsd.specs.declared.turn.Turn.TheVariants.{GoesOn, Ends, SinkFailed}
use Rattle.clsd.specs.Sessions.{MakesReads}

-- the core stands for what the session was given; the sink holds what its journal writes; no request was pending where a message
-- was received, and none is
pub record Keeps (given : Given) (core : Core) (held : List ℕ) : Type 0 where
  pub stands : StandsFor given core
  pub writes : Writes AnswerOf given (past_of core) held
  pub settled : IsSettled given (past_of core)
  pub idle : IsIdle core

-- the same while a job is out
pub record Works (given : Given) (core : Core) (job : Job) (held : List ℕ) : Type 0 where
  pub stands : StandsFor given core
  pub writes : Writes AnswerOf given (past_of core) held
  pub settled : IsSettled given (past_of core)
  pub works : WorksOn core job

-- the same while a read of this path is awaited
pub record Awaits (given : Given) (core : Core) (path : List ℕ) (held : List ℕ) : Type 0 where
  pub stands : StandsFor given core
  pub writes : Writes AnswerOf given (past_of core) held
  pub settled : IsSettled given (past_of core)
  pub awaits : AwaitsRead core path

-- the session ended of itself, with no request pending
pub record IsOver (given : Given) (core : Core) (held : List ℕ) : Type 0 where
  pub stands : StandsFor given core
  pub writes : Writes AnswerOf given (past_of core) held
  pub settled : IsSettled given (past_of core)
  pub none_pending : pending given (past_of core) ≡ []

-- the session was cut off: the sink holds a front of what its journal writes
pub record IsCutOff (given : Given) (core : Core) (held : List ℕ) : Type 0 where
  pub stands : StandsFor given core
  pub unwritten : List ℕ
  pub writes : Writes AnswerOf given (past_of core) (held ++ unwritten)
  pub settled : IsSettled given (past_of core)

-- what the sink holds is known, and is so
abbrev pub Holds : Option (List ℕ) → (List ℕ → Type 0) → Type 0
Holds held P = (now : List ℕ) × (held ≡ Some now) × P now

-- ---- reads

-- the reads of a list from the n-th on begin with these
abbrev pub AreNext : ℕ → Reads → Reads → Type 0
AreNext n [] all = Unit {0}
AreNext n (read ∷ made) all = (slice_get all n ≡ Some read) × AreNext (n + 1) made all

-- reads were made, and this holds of them for whatever a session is given in which they come next after the first n
abbrev pub Making : (told_before told_now : Option Reads) → (faults_before faults_now n : ℕ) → (Given → Reads → Type 0) → Type 0
Making told_before told_now faults_before faults_now n P =
    (made : Reads) × MakesReads told_before told_now faults_before faults_now made × ((given : Given) → AreNext n made given.reads → P given made)

-- no message more was taken, and just these reads more
abbrev pub TookReads : Core → Core → Reads → Type 0
TookReads old new made = (messages_taken new ≡ messages_taken old) × (reads_taken new ≡ reads_taken old + length made)

-- no message more was taken, and no more reads than these
abbrev pub TookSome : Core → Core → Reads → Type 0
TookSome old new made = (messages_taken new ≡ messages_taken old) × (reads_taken new ≤ reads_taken old + length made)

-- what work on a job leaves that is to give this; for want of memory the session is cut off
abbrev pub LeavesWork : {X : Type 0} → (X → Type 0) → Given → Core → Core → Reads → List ℕ → Result X Memory → Type 0
LeavesWork P given old new made held (Ok x) = P x × TookReads old new made
LeavesWork P given old new made held (Err memory) = IsCutOff given new held × TookSome old new made

-- ---- a turn: a message with the job that it starts

-- what the turn of a message leaves, by how it ended; these reads were made in it
abbrev pub Turns : Given → Core → Parsed → Core → Reads → Option (List ℕ) → Result Turn Memory → Type 0
Turns given old p new made held (Ok GoesOn) =
    Holds held (Keeps given new) × (messages_taken new ≡ messages_taken old + 1) × (reads_taken new ≡ reads_taken old + length made) × (is_exit (class_of p) ≡ false)
Turns given old p new made held (Ok (Ends status)) =
    Holds held (IsOver given new) × (messages_taken new ≡ messages_taken old + 1) × (reads_taken new ≡ reads_taken old + length made) × (is_exit (class_of p) ≡ true)
    × (status ≡ (if is_shut_down given (past_of new) then 0 else 1))
Turns given old p new made held (Ok SinkFailed) = Holds held (IsCutOff given new) × (messages_taken new ≤ messages_taken old + 1) × (reads_taken new ≤ reads_taken old + length made)
Turns given old p new made held (Err memory) = Holds held (IsCutOff given new) × (messages_taken new ≤ messages_taken old + 1) × (reads_taken new ≤ reads_taken old + length made)

-- a turn of an idle session leaves it idle, or ends it with 0 or 1
abbrev pub LeavesIdle : Core → Result Turn Memory → Type 0
LeavesIdle new (Ok GoesOn) = IsIdle new
LeavesIdle new (Ok (Ends status)) = (status ≡ 0) ⊎ (status ≡ 1)
LeavesIdle new (Ok SinkFailed) = Unit {0}
LeavesIdle new (Err memory) = Unit {0}

-- what a job leaves, with the reads that it needed
abbrev pub EndsWork : Given → Core → Core → Reads → Option (List ℕ) → Result Turn Memory → Type 0
EndsWork given old new made held (Ok GoesOn) = Holds held (Keeps given new) × TookReads old new made
EndsWork given old new made held (Ok (Ends status)) = ⊥
EndsWork given old new made held (Ok SinkFailed) = Holds held (IsCutOff given new) × TookSome old new made
EndsWork given old new made held (Err memory) = Holds held (IsCutOff given new) × TookSome old new made

-- the event of a job's end
abbrev pub IsEndOf : Job → Event → Type 0
IsEndOf job (event.Done done) = done.job ≡ job
IsEndOf job (event.NoMemory same) = same ≡ job
IsEndOf job _ = ⊥

-- the event of the end of the job that is worked on
abbrev pub EndsJob : Core → Event → Type 0
EndsJob core e = (job : Job) × IsEndOf job e × WorksOn core job

-- the same in a session of this
abbrev pub EndsWorked : Given → Core → List ℕ → Event → Type 0
EndsWorked given core held e = (job : Job) × IsEndOf job e × Works given core job held

-- the frame that an effect writes, if it is a reply
abbrev pub frame_of : Effect → List ℕ
frame_of (effect.Reply r) = reply_frame r
frame_of _ = []

-- how a session goes on that ends with this status, if it ends
abbrev pub turn_of : Option ℕ → Turn
turn_of (Some status) = Ends status
turn_of None = GoesOn

-- what the end of the input leaves
abbrev pub EndsInput : Given → Core → Ending → Core → List ℕ → Result ℕ Memory → Type 0
EndsInput given old how new held (Ok status) = (status ≡ status_of how) × IsOver given new held × (messages_taken new ≡ messages_taken old) × (reads_taken new ≡ reads_taken old)
EndsInput given old how new held (Err memory) = IsCutOff given new held × (messages_taken new ≡ messages_taken old) × (reads_taken new ≡ reads_taken old)

-- the end with this status and offset, or for want of memory
abbrev pub ended_with : Result ℕ Memory → ℕ → Ended
ended_with (Ok status) at = record { status = status; at = at }
ended_with (Err memory) at = record { status = 7; at = 0 }

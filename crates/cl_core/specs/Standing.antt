-- What a core stands for, and the words in which those above speak of a core.
use Rattle.std.specs.Prelude.{◌≡◌, ◌⊎◌, ℕ, ◌+◌, ◌<◌, List, [], ◌∷◌, ◌++◌, reverse, map, filter, Bool, true, false, not, nat_eq, if◌then◌else◌, Option, Some, None, option_map, slice_get, Contains}
use Rattle.std.specs.Bool.{MatchBool}
use Rattle.std.specs.List.{AllByRecursion}
use Rattle.cl_headers.specs.Headers.{known_at}
use Rattle.cl_rpc.specs.Classes.{class_of}
use Rattle.cl_rpc.specs.Replies.{reply_frame}
use Rattle.cl_query.specs.declared.job.Job.{Job}
use Rattle.cl_query.specs.AnswerOf.{AnswerOf, NeedsOf}
use Rattle.cl_history.specs.declared.entry.Entry.{Entry}
use Rattle.cl_history.specs.Given.{Given, said, received, loaded}
use Rattle.cl_history.specs.History.{is_initialised, is_shut_down, text_at, version_at, pending}
use Rattle.cl_history.specs.Headers.{AreHeadersAt, past_at}
use Rattle.cl_history.specs.Legal.{AllFollow, IsMark, before, owed}
use Rattle.cl_history.specs.Written.{Writes}
use Rattle.cl_core.specs.declared.core_state.Core.{Core}
use Rattle.cl_core.specs.declared.core_state.Awaited.{Awaited}
use Rattle.cl_core.specs.declared.event.Effect.{Effect}
use Rattle.cl_core.specs.declared.event.Effect.TheVariants as effect
use Rattle.cl_core.specs.declared.event.Ending.{Ending}
use Rattle.cl_core.specs.declared.event.Event.{Event}
use Rattle.cl_core.specs.declared.event.Event.TheVariants as event
use Rattle.cl_core.specs.declared.waiting.Waiting.{Waiting}
use Rattle.cl_core.specs.Waiting.{number_of, class_of_waiting}
use Rattle.cl_core.specs.Deciding.{texts_of, versions_of}
use Rattle.cl_history.specs.Refusals.{is_exit}
use Rattle.cl_core.specs.Steps.{hears, status_of}

-- ---- the words of those above

-- the entries of a core's journal, the oldest first, and the newest first
abbrev pub journal_of : Core → List Entry
journal_of core = core.journal

abbrev pub past_of : Core → List Entry
past_of core = reverse core.journal

-- how many messages it took, and how many reads
abbrev pub messages_taken : Core → ℕ
messages_taken core = core.messages

abbrev pub reads_taken : Core → ℕ
reads_taken core = core.loads

-- how many jobs it started
abbrev pub jobs_started : Core → ℕ
jobs_started core = core.jobs

-- the path whose read it awaits
abbrev pub awaited_path : Core → Option (List ℕ)
awaited_path core = option_map (λ (a : Awaited). a.path) core.awaited

-- the jobs that are out: those of the requests that wait, but of the one that awaits a read
abbrev pub awaits_read : Option Awaited → Waiting → Bool
awaits_read None w = false
awaits_read (Some a) w = nat_eq w.job.message a.message

abbrev pub jobs_out : Core → List Job
jobs_out core = map (λ (w : Waiting). w.job) (filter (λ w. not (awaits_read core.awaited w)) core.pending)

-- no request waits, no end was taken, and the session isn't over
pub record IsIdle (core : Core) : Type 0 where
  pub none_waits : core.pending ≡ []
  pub none_awaited : core.awaited ≡ None
  pub goes_on : core.ending ≡ None
  pub not_over : core.finished ≡ false

-- just one request waits, and this is its job
pub record WorksOn (core : Core) (job : Job) : Type 0 where
  pub waiting : Waiting
  pub only : core.pending ≡ waiting ∷ []
  pub its_job : waiting.job ≡ job
  pub none_awaited : core.awaited ≡ None
  pub goes_on : core.ending ≡ None
  pub not_over : core.finished ≡ false

-- just one request waits, for the read of this path
pub record AwaitsRead (core : Core) (path : List ℕ) : Type 0 where
  pub waiting : Waiting
  pub only : core.pending ≡ waiting ∷ []
  pub message : ℕ
  pub its_message : waiting.job.message ≡ message
  pub awaited : core.awaited ≡ Some (record { message = message; path = path })
  pub goes_on : core.ending ≡ None
  pub not_over : core.finished ≡ false

-- ---- what a core stands for

-- a request that waits stands in the history as a query, and its job is over its document's text at its receipt and
-- over the headers at its mark
pub record Asks (given : Given) (past : List Entry) (w : Waiting) : Type 0 where
  pub said_so : said given w.job.message ≡ class_of_waiting w
  pub received_so : w.job.message < received past
  pub over : text_at given (before past w.job.message) w.job.path ≡ Some w.job.text
  pub at_version : version_at given (before past w.job.message) w.job.path ≡ Some w.job.version
  pub marked : IsMark past w.job.message w.job.mark
  pub headers : AreHeadersAt given (past_at past w.job.mark) w.job.headers
  pub config : w.job.config ≡ given.config
  pub initialised : is_initialised given past ≡ true

-- the request that awaits a read is pending, and its job needs the path, which is unknown
pub record AwaitsSo (core : Core) (a : Awaited) : Type 0 where
  pub waiting : Waiting
  pub waits : Contains core.pending waiting
  pub works_for : waiting.job.message ≡ a.message
  pub needs_it : NeedsOf waiting.job.kind waiting.job.config waiting.job.headers waiting.job.path waiting.job.text a.path
  pub is_unknown : known_at core.headers a.path ≡ None

-- the core's facts are those of this past, for what the session was given
pub record StandsAt (given : Given) (core : Core) (past : List Entry) : Type 0 where
  pub config : core.config ≡ given.config
  pub initialised : core.initialised ≡ is_initialised given past
  pub shut_down : core.shut_down ≡ is_shut_down given past
  pub once_initialised : core.shut_down ≡ true → core.initialised ≡ true
  pub texts : (path : List ℕ) → texts_of core.docs path ≡ text_at given past path
  pub versions : (path : List ℕ) → versions_of core.docs path ≡ version_at given past path
  pub headers : AreHeadersAt given past core.headers
  pub count : core.messages ≡ received past
  pub reads : core.loads ≡ loaded past
  pub waiting : map number_of core.pending ≡ pending given past
  pub asks : AllByRecursion (Asks given past) core.pending
  pub awaits : (a : Awaited) → core.awaited ≡ Some a → AwaitsSo core a
  pub follow : AllFollow NeedsOf given past
  pub none_due : owed given past ≡ []

-- they are those of its journal
abbrev pub StandsFor : Given → Core → Type 0
StandsFor given core = StandsAt given core (past_of core)

-- an event that the core hears is the next one: its message, or its read
abbrev pub IsNextOf : Given → Core → Event → Type 0
IsNextOf given core (event.Message p) = slice_get given.messages core.messages ≡ Some p
IsNextOf given core (event.Loaded path read) = slice_get given.reads core.loads ≡ Some (path, read)
IsNextOf given core _ = Unit {0}

abbrev pub IsNext : Given → Core → Event → Type 0
IsNext given core e = MatchBool (hears core e) (IsNextOf given core e) (Unit {0})

-- ---- what effects do

-- the frames of the replies, in order
abbrev pub frames_of : List Effect → List ℕ
frames_of [] = []
frames_of (effect.Reply r ∷ es) = reply_frame r ++ frames_of es
frames_of (effect.StartJob job ∷ es) = frames_of es
frames_of (effect.Load path ∷ es) = frames_of es
frames_of (effect.Finish status ∷ es) = frames_of es

-- the jobs that are started
abbrev pub jobs_of : List Effect → List Job
jobs_of [] = []
jobs_of (effect.Reply r ∷ es) = jobs_of es
jobs_of (effect.StartJob job ∷ es) = job ∷ jobs_of es
jobs_of (effect.Load path ∷ es) = jobs_of es
jobs_of (effect.Finish status ∷ es) = jobs_of es

-- the headers that are to be read
abbrev pub loads_of : List Effect → List (List ℕ)
loads_of [] = []
loads_of (effect.Reply r ∷ es) = loads_of es
loads_of (effect.StartJob job ∷ es) = loads_of es
loads_of (effect.Load path ∷ es) = path ∷ loads_of es
loads_of (effect.Finish status ∷ es) = loads_of es

-- the status with which the session ends, if it does
abbrev pub finish_of : List Effect → Option ℕ
finish_of [] = None
finish_of (effect.Reply r ∷ es) = finish_of es
finish_of (effect.StartJob job ∷ es) = finish_of es
finish_of (effect.Load path ∷ es) = finish_of es
finish_of (effect.Finish status ∷ es) = Some status

-- the frames are written after these bytes
abbrev pub WritesOn : Given → Core → Core → List Effect → Type 0
WritesOn given old new effects = (bytes : List ℕ) → Writes AnswerOf given (past_of old) bytes → Writes AnswerOf given (past_of new) (bytes ++ frames_of effects)

-- ---- a session that does each job before it takes the next message

-- after a message the session is idle, or works on the one job that it starts, or is over with the `exit`'s status
abbrev pub TakesTurn : (is_last : Bool) → (old : Core) → (new : Core) → List Effect → Type 0
TakesTurn true old new effects =
    (jobs_of effects ≡ []) × (loads_of effects ≡ []) × (finish_of effects ≡ Some (if old.shut_down then 0 else 1)) × (new.pending ≡ []) × (new.shut_down ≡ old.shut_down)
TakesTurn false old new effects =
    (loads_of effects ≡ []) × (finish_of effects ≡ None)
    × (((jobs_of effects ≡ []) × IsIdle new) ⊎ ((job : Job) × (jobs_of effects ≡ job ∷ []) × WorksOn new job))

-- after its job's end the session is idle
pub record EndsTurn (new : Core) (effects : List Effect) : Type 0 where
  pub idle : IsIdle new
  pub none_started : jobs_of effects ≡ []
  pub none_loaded : loads_of effects ≡ []
  pub goes_on : finish_of effects ≡ None

-- a job is begun again
pub record Restarts (new : Core) (effects : List Effect) : Type 0 where
  pub job : Job
  pub started : jobs_of effects ≡ job ∷ []
  pub none_loaded : loads_of effects ≡ []
  pub goes_on : finish_of effects ≡ None
  pub works : WorksOn new job

-- a header is to be read
pub record ReadsFirst (path : List ℕ) (new : Core) (effects : List Effect) : Type 0 where
  pub none_started : jobs_of effects ≡ []
  pub loads : loads_of effects ≡ path ∷ []
  pub goes_on : finish_of effects ≡ None
  pub awaits : AwaitsRead new path

-- the end of the input ends the session
pub record EndsSession (how_it_ended : Ending) (new : Core) (effects : List Effect) : Type 0 where
  pub none_waits : new.pending ≡ []
  pub effects_are : effects ≡ effect.Finish (status_of how_it_ended) ∷ []

abbrev pub Turns : Core → Event → Core → List Effect → Type 0
Turns old (event.Message p) new effects = IsIdle old → (messages_taken new ≡ messages_taken old + 1) × (reads_taken new ≡ reads_taken old) × TakesTurn (is_exit (class_of p)) old new effects
Turns old (event.Loaded path read) new effects = AwaitsRead old path → (messages_taken new ≡ messages_taken old) × (reads_taken new ≡ reads_taken old + 1) × Restarts new effects
Turns old (event.Done done) new effects = WorksOn old done.job → (messages_taken new ≡ messages_taken old) × (reads_taken new ≡ reads_taken old) × EndsTurn new effects
Turns old (event.Need need) new effects = WorksOn old need.job → (messages_taken new ≡ messages_taken old) × (reads_taken new ≡ reads_taken old) × (Restarts new effects ⊎ ReadsFirst need.path new effects)
Turns old (event.NoMemory job) new effects = WorksOn old job → (messages_taken new ≡ messages_taken old) × (reads_taken new ≡ reads_taken old) × EndsTurn new effects
Turns old (event.End e) new effects = IsIdle old → (messages_taken new ≡ messages_taken old) × (reads_taken new ≡ reads_taken old) × EndsSession e new effects

-- no request waits where a message is taken
abbrev pub IsReady : Core → Event → Type 0
IsReady core (event.Message p) = core.pending ≡ []
IsReady core _ = Unit {0}

-- What a step does to a core.
use Rattle.std.specs.Prelude.{◌≡◌, ◌⊎◌, Contains, ℕ, ◌+◌, ◌&&◌, ◌||◌, List, [], ◌∷◌, ◌++◌, length, map, filter, Bool, true, false, not, if◌then◌else◌, Option, Some, None, is_some, option_map, unwrap_or, nat_eq}
use Rattle.std.specs.Bool.{MatchBool}
use Rattle.std.specs.Str.{bytes_eq}
use Rattle.cl_base.specs.declared.headers.Read.{Read}
use Rattle.cl_headers.specs.Headers.{Headers, known_at}
use Rattle.cl_rpc.specs.declared.out.How.{How}
use Rattle.cl_rpc.specs.declared.out.How.TheVariants as how
use Rattle.cl_rpc.specs.declared.out.Out.{Out}
use Rattle.cl_rpc.specs.declared.out.Out.TheVariants as out
use Rattle.cl_rpc.specs.Classes.{Class, class_of}
use Rattle.cl_query.specs.declared.job.Job.{Job}
use Rattle.cl_headers.specs.declared.dep.Dep.{Dep}
use Rattle.cl_query.specs.Over.{IsOver}
use Rattle.cl_history.specs.declared.entry.Entry.{Entry}
use Rattle.cl_history.specs.declared.entry.Entry.TheVariants as entry
use Rattle.cl_history.specs.Refusals.{is_exit, out_of_memory}
use Rattle.cl_history.specs.History.{is_initialising, text_after, version_after}
use Rattle.cl_history.specs.Headers.{told}
use Rattle.cl_history.specs.Accepted.{is_shutdown}
use Rattle.cl_core.specs.declared.core_state.Core.{Core}
use Rattle.cl_core.specs.declared.core_state.Awaited.{Awaited}
use Rattle.cl_core.specs.declared.event.Event.{Event}
use Rattle.cl_core.specs.declared.event.Event.TheVariants as event
use Rattle.cl_core.specs.declared.event.Ending.{Ending}
use Rattle.cl_core.specs.declared.event.Ending.TheVariants as ending
use Rattle.cl_core.specs.declared.event.Effect.{Effect}
use Rattle.cl_core.specs.declared.event.Effect.TheVariants as effect
use Rattle.cl_core.specs.declared.waiting.Waiting.{Waiting}
use Rattle.cl_pending.specs.Meant.{is_nil}
use Rattle.cl_core.specs.Deciding.{texts_of, versions_of, core_refusal, entry_of, known_after, left_by, reply_by, replies_of, started_by}

-- the entries of the replies among the effects
abbrev pub entries_of : List Effect → List Entry
entries_of [] = []
entries_of (effect.Reply r ∷ es) = entry_of r ∷ entries_of es
entries_of (effect.StartJob job ∷ es) = entries_of es
entries_of (effect.Load path ∷ es) = entries_of es
entries_of (effect.Finish status ∷ es) = entries_of es

-- ---- the end

-- the session ends with its status when no request waits any more
abbrev pub finish_if : Option ℕ → Bool → List Effect
finish_if None none_left = []
finish_if (Some status) none_left = if none_left then effect.Finish status ∷ [] else []

abbrev pub finish : Option ℕ → List Waiting → List Effect
finish ending left = finish_if ending (is_nil left)

abbrev pub finishes : Option ℕ → List Waiting → Bool
finishes ending left = is_some ending && is_nil left

-- the status with which an end that comes first decides
abbrev pub first_ending : Option ℕ → ℕ → Option ℕ
first_ending None status = Some status
first_ending (Some earlier) status = Some earlier

-- `exit` ends with 0 after an accepted `shutdown`, and else with 1
abbrev pub ending_after : Core → Class → Option ℕ
ending_after core k = if is_exit k then first_ending core.ending (if core.shut_down then 0 else 1) else core.ending

-- the status that an end of the input gives
abbrev pub status_of : Ending → ℕ
status_of ending.Edge = 2
status_of ending.Bad = 3
status_of ending.Failed = 4
status_of ending.Memory = 7
status_of ending.Long = 8

-- ---- which events a core hears

-- a session that is over hears none; while it awaits a read it hears of that alone; and of no read that it doesn't await
abbrev pub is_awaited : Option Awaited → Event → Bool
is_awaited None (event.Loaded path read) = false
is_awaited None e = true
is_awaited (Some a) (event.Loaded path read) = bytes_eq a.path path
is_awaited (Some a) e = false

abbrev pub hears : Core → Event → Bool
hears core e = not core.finished && is_awaited core.awaited e

-- ---- a message

abbrev pub pending_after : Core → Class → List Waiting
pending_after core k = left_by core k ++ started_by core k

abbrev pub start_jobs : List Waiting → List Effect
start_jobs ws = map (λ (w : Waiting). effect.StartJob w.job) ws

-- the message is accepted
abbrev pub is_accepted : Core → Class → Bool
is_accepted core k = not (is_some (core_refusal core k))

-- a message was taken
pub record Takes (old : Core) (k : Class) (new : Core) (effects : List Effect) : Type 0 where
  pub config : new.config ≡ old.config
  pub messages : new.messages ≡ old.messages + 1
  pub loads : new.loads ≡ old.loads
  pub jobs : new.jobs ≡ old.jobs + length (started_by old k)
  pub journal : new.journal ≡ old.journal ++ entry.In old.messages ∷ map entry_of (replies_of old k)
  pub initialised : new.initialised ≡ ((is_accepted old k && is_initialising k) || old.initialised)
  pub shut_down : new.shut_down ≡ ((is_accepted old k && is_shutdown k) || old.shut_down)
  pub texts : (path : List ℕ) → texts_of new.docs path ≡ text_after old.initialised k path (texts_of old.docs path)
  pub versions : (path : List ℕ) → versions_of new.docs path ≡ version_after old.initialised k path (versions_of old.docs path)
  pub headers : (path : List ℕ) → known_at new.headers path ≡ known_after old.initialised (is_some (texts_of old.docs path)) k path (known_at old.headers path)
  pub pending : new.pending ≡ pending_after old k
  pub awaited : new.awaited ≡ None
  pub ending : new.ending ≡ ending_after old k
  pub finished : new.finished ≡ finishes (ending_after old k) (pending_after old k)
  pub effects_are : effects ≡ map effect.Reply (replies_of old k) ++ (start_jobs (started_by old k) ++ finish (ending_after old k) (pending_after old k))

-- ---- the end of a job

-- the requests that are left when one is replied to
abbrev pub left_after : Core → ℕ → List Waiting
left_after core message = filter (λ w. not (nat_eq w.job.message message)) core.pending

-- a request was replied to, when its job ended
abbrev pub replied : Core → Job → ℕ → How → Core
replied old job mark h = record old {
  journal = old.journal ++ entry.Reply job.message mark h ∷ [];
  pending = left_after old job.message;
  finished = finishes old.ending (left_after old job.message);
}

-- work on a job, which saw this of headers, was work on the job of a request that waits: that is replied to
pub record Replies (old : Core) (worked : Job) (seen : List Dep) (mark : ℕ) (h : How) (o : Out) (new : Core) (effects : List Effect) : Type 0 where
  pub waiting : Waiting
  pub waits : Contains old.pending waiting
  pub over : IsOver worked seen waiting.job
  pub new_is : new ≡ replied old waiting.job mark h
  pub effects_are : effects ≡ effect.Reply (reply_by waiting.job.message mark h (Some waiting.id) o) ∷ finish old.ending (left_after old waiting.job.message)

-- ---- a job that starts again

-- the job, begun again over what is known now
abbrev pub again : ℕ → ℕ → Headers → Job → Job
again number mark headers job = record job { number = number; mark = mark; headers = headers }

abbrev pub with_again : ℕ → ℕ → ℕ → Headers → Waiting → Waiting
with_again message number mark headers w = if nat_eq w.job.message message then record w { job = again number mark headers w.job } else w

-- the requests that wait, where the job of a message was begun again
abbrev pub begun_again : ℕ → ℕ → ℕ → Headers → List Waiting → List Waiting
begun_again message number mark headers ws = map (with_again message number mark headers) ws

-- the header that a job needs became known since: the job starts again
pub record StartsAgain (old : Core) (job : Job) (new : Core) (effects : List Effect) : Type 0 where
  pub new_is : new ≡ record old { jobs = old.jobs + 1; pending = begun_again job.message old.jobs (length old.journal) old.headers old.pending }
  pub effects_are : effects ≡ effect.StartJob (again old.jobs (length old.journal) old.headers job) ∷ []

-- it is unknown: it is read
pub record Awaits (old : Core) (job : Job) (path : List ℕ) (new : Core) (effects : List Effect) : Type 0 where
  pub new_is : new ≡ record old { awaited = Some (record { message = job.message; path = path }) }
  pub effects_are : effects ≡ effect.Load path ∷ []

-- work on a job was work on the job of a request that waits, which needs a header
pub record Needs (old : Core) (worked : Job) (seen : List Dep) (path : List ℕ) (new : Core) (effects : List Effect) : Type 0 where
  pub waiting : Waiting
  pub waits : Contains old.pending waiting
  pub over : IsOver worked seen waiting.job
  pub so : MatchBool (is_some (known_at old.headers path)) (StartsAgain old waiting.job new effects) (Awaits old waiting.job path new effects)

-- work that isn't work on a job that is out has no effect
pub record IsStale (old : Core) (worked : Job) (seen : List Dep) (new : Core) (effects : List Effect) : Type 0 where
  pub not_out : (waiting : Waiting) → Contains old.pending waiting → IsOver worked seen waiting.job → ⊥
  pub same : new ≡ old
  pub none : effects ≡ []

abbrev pub Completes : Core → Job → List Dep → ℕ → How → Out → Core → List Effect → Type 0
Completes old worked seen mark h o new effects = Replies old worked seen mark h o new effects ⊎ IsStale old worked seen new effects

abbrev pub Lacks : Core → Job → List Dep → List ℕ → Core → List Effect → Type 0
Lacks old worked seen path new effects = Needs old worked seen path new effects ⊎ IsStale old worked seen new effects

-- ---- a read

-- the job of the request that awaited the header starts again over what is known with it
pub record Loads (old : Core) (message : ℕ) (path : List ℕ) (read : Read) (new : Core) (effects : List Effect) : Type 0 where
  pub waiting : Waiting
  pub waits : Contains old.pending waiting
  pub works_for : waiting.job.message ≡ message
  pub alone : waiting ∷ [] ≡ filter (λ w. nat_eq w.job.message message) old.pending
  pub known : (q : List ℕ) → known_at new.headers q ≡ (if bytes_eq path q then Some (told read) else known_at old.headers q)
  pub new_is : new ≡ record old {
    loads = old.loads + 1;
    jobs = old.jobs + 1;
    headers = new.headers;
    pending = begun_again message old.jobs (length old.journal + 1) new.headers old.pending;
    awaited = None;
    journal = old.journal ++ entry.Load old.loads ∷ [];
  }
  pub effects_are : effects ≡ effect.StartJob (again old.jobs (length old.journal + 1) new.headers waiting.job) ∷ []

-- no request of that message waits: there is none such while a read is awaited
pub record IsLost (old : Core) (message : ℕ) (new : Core) (effects : List Effect) : Type 0 where
  pub not_there : (waiting : Waiting) → Contains old.pending waiting → waiting.job.message ≡ message → ⊥
  pub same : new ≡ old
  pub none : effects ≡ []

abbrev pub awaited_message : Core → ℕ
awaited_message core = unwrap_or (option_map (λ (a : Awaited). a.message) core.awaited) 0

-- ---- the end of the input

pub record Stops (old : Core) (how_it_ended : Ending) (new : Core) (effects : List Effect) : Type 0 where
  pub same : new ≡ record old { ending = first_ending old.ending (status_of how_it_ended); finished = is_nil old.pending }
  pub effects_are : effects ≡ finish (first_ending old.ending (status_of how_it_ended)) old.pending

-- ---- all together

-- what a step does that the core hears
abbrev pub StepsOn : Core → Event → Core → List Effect → Type 0
StepsOn old (event.Message p) new effects = Takes old (class_of p) new effects
StepsOn old (event.Loaded path read) new effects = Loads old (awaited_message old) path read new effects ⊎ IsLost old (awaited_message old) new effects
StepsOn old (event.Done done) new effects = Completes old done.job done.seen done.job.mark how.Answered (out.Answer done.answer) new effects
StepsOn old (event.Need need) new effects = Lacks old need.job need.seen need.path new effects
StepsOn old (event.NoMemory job) new effects = Completes old job [] (length old.journal) how.Memory (out.Error out_of_memory) new effects
StepsOn old (event.End e) new effects = Stops old e new effects

-- an event that isn't heard does nothing
abbrev pub Steps : Core → Event → Core → List Effect → Type 0
Steps old e new effects = MatchBool (hears old e) (StepsOn old e new effects) ((new ≡ old) × (effects ≡ []))

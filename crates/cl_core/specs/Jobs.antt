-- The jobs of a run: what each is over, and which are out.
use Rattle.std.specs.Prelude.{◌≡◌, ◌≢◌, ◌⊎◌, ℕ, ◌+◌, List, [], ◌∷◌, ◌++◌, length, reverse, true, Some, Contains}
use Rattle.std.specs.List.{AllByRecursion}
use Rattle.cl_query.specs.declared.job.Job.{Job}
use Rattle.cl_query.specs.Over.{IsOver}
use Rattle.cl_rpc.specs.declared.id.Id.{Id}
use Rattle.cl_rpc.specs.Classes.{queries}
use Rattle.cl_history.specs.declared.entry.Entry.{Entry}
use Rattle.cl_history.specs.Given.{Given, said}
use Rattle.cl_history.specs.History.{text_at, version_at, pending}
use Rattle.cl_history.specs.Headers.{AreHeadersAt}
use Rattle.cl_history.specs.Legal.{before}
use Rattle.cl_core.specs.declared.event.Event.{Event}
use Rattle.cl_core.specs.declared.event.Event.TheVariants as event
use Rattle.cl_core.specs.Standing.{jobs_of, loads_of}
use Rattle.cl_core.specs.Runs.{Put}

-- a job that is started: it works for a query that is pending, over the text and the version that the query's document
-- had at its receipt, and over the headers of the journal as its step left it, whose length is its mark
pub record IsStarted (given : Given) (journal : List Entry) (job : Job) : Type 0 where
  pub works : Contains (pending given (reverse journal)) job.message
  pub id : Id
  pub asked : said given job.message ≡ queries id job.kind job.path
  pub over : text_at given (before (reverse journal) job.message) job.path ≡ Some job.text
  pub at_version : version_at given (before (reverse journal) job.message) job.path ≡ Some job.version
  pub config : job.config ≡ given.config
  pub marked : job.mark ≡ length journal
  pub headers : AreHeadersAt given (reverse journal) job.headers

-- so is each job of a run
abbrev pub AllStarted : Given → List Put → Type 0
AllStarted given puts = AllByRecursion (λ (put : Put). AllByRecursion (IsStarted given put.journal) (jobs_of put.effects)) puts

-- their numbers are 0, 1, 2 ..
abbrev pub jobs_so_far : List Put → List Job
jobs_so_far [] = []
jobs_so_far (put ∷ past) = jobs_so_far past ++ jobs_of put.effects

abbrev pub AreNumberedFrom : ℕ → List Job → Type 0
AreNumberedFrom n [] = Unit {0}
AreNumberedFrom n (job ∷ jobs) = (job.number ≡ n) × AreNumberedFrom (n + 1) jobs

-- an event is the end of a job: what it tells of work on a job is work on this one
abbrev pub IsEndOf : Event → Job → Type 0
IsEndOf (event.Done done) job = IsOver done.job done.seen job
IsEndOf (event.Need need) job = IsOver need.job need.seen job
IsEndOf (event.NoMemory failed) job = IsOver failed [] job
IsEndOf _ job = ⊥

-- a job is out from its start on, until the first end of it is taken and heard
abbrev pub IsOut : List Put → Job → Type 0
IsOut [] job = ⊥
IsOut (put ∷ past) job = Contains (jobs_of put.effects) job ⊎ (IsOut past job × (put.taken ≡ true → put.heard ≡ true → IsEndOf put.event job → ⊥))

-- just one job is out for a message
pub record HasOneOut (puts : List Put) (message : ℕ) : Type 0 where
  pub job : Job
  pub works_for : job.message ≡ message
  pub is_out : IsOut puts job
  pub alone : (other : Job) → other.message ≡ message → IsOut puts other → other ≡ job

-- the message is that of the job whose need led to the read among the effects of the last put that had any
abbrev pub LedToRead : List Put → ℕ → Type 0
LedToRead [] message = ⊥
LedToRead (put ∷ past) message =
    ((loads_of put.effects ≢ []) × ((job : Job) × IsEndOf put.event job × (job.message ≡ message))) ⊎ ((put.effects ≡ []) × LedToRead past message)

-- after each event of a run there is one for each query that is pending, but for the one whose job's need led to the
-- read among the event's effects
abbrev pub EachHasOneOut : Given → List Put → Type 0
EachHasOneOut given [] = Unit {0}
EachHasOneOut given (put ∷ past) =
    ((message : ℕ) → Contains (pending given (reverse put.journal)) message → HasOneOut (put ∷ past) message ⊎ LedToRead (put ∷ past) message) × EachHasOneOut given past

-- A decision, and what it stands for.
use Rattle.std.specs.Prelude.{◌≡◌, ℕ, ℤ, ◌+◌, ◌&&◌, ◌||◌, List, [], ◌∷◌, ◌++◌, length, map, Option, Some, None, is_some}
use Rattle.cl_headers.specs.Headers.{known_at}
use Rattle.cl_store.specs.declared.docs.Docs.{Docs}
use Rattle.cl_store.specs.Docs.{Puts}
use Rattle.cl_base.specs.declared.query.Query.{Query}
use Rattle.cl_rpc.specs.declared.id.Id.{Id}
use Rattle.cl_rpc.specs.Classes.{Class, queries}
use Rattle.cl_history.specs.declared.entry.Entry.TheVariants as entry
use Rattle.cl_history.specs.History.{End, by_id, on_document, is_initialising, text_after, version_after}
use Rattle.cl_history.specs.Accepted.{is_shutdown}
use Rattle.cl_core.specs.declared.core_state.State.{State}
use Rattle.cl_core.specs.declared.decision.Decision.{Decision}
use Rattle.cl_core.specs.declared.decision.Work.{Work}
use Rattle.cl_core.specs.declared.decision.Work.TheVariants as work
use Rattle.cl_core.specs.declared.event.Effect.{Effect}
use Rattle.cl_core.specs.declared.event.Effect.TheVariants as effect
use Rattle.cl_core.specs.declared.waiting.Waiting.{Waiting}
use Rattle.cl_pending.specs.declared.waits.Which.{Which}
use Rattle.cl_pending.specs.declared.waits.Which.TheVariants as which
use Rattle.cl_core.specs.Deciding.{texts_of, versions_of, ends_by, known_after, others_than, replies_of, started_by, started_if}
use Rattle.cl_core.specs.Steps.{ending_after, entries_of, finish, finishes, is_accepted, start_jobs}

-- the requests that are meant
abbrev pub end_behind : Option Which → Option End
end_behind None = None
end_behind (Some (which.Id i)) = Some (by_id i.now)
end_behind (Some (which.Document path)) = Some (on_document path.now)
end_behind (Some (which.Message m)) = None

-- they are told by an id or by a document
abbrev pub IsEnding : Option Which → Type 0
IsEnding (Some (which.Message m)) = ⊥
IsEnding _ = Unit {0}

-- the request that starts to wait
abbrev pub started_in : Work → List Waiting
started_in (work.Starts w) = w ∷ []
started_in _ = []

-- the documents after it
abbrev pub Edits : Docs → Work → Docs → Type 0
Edits old (work.Puts path version text) new = Puts old new path.now (Some (record { version = version; text = text.now }))
Edits old (work.Closes path) new = Puts old new path.now None
Edits old _ new = new ≡ old

-- the work that a message begins
abbrev pub EditsAs : State → Class → Work → Type 0
EditsAs core k w = (docs : Docs) → Edits core.docs w docs
    → ((path : List ℕ) → texts_of docs path ≡ text_after core.initialised k path (texts_of core.docs path))
    × ((path : List ℕ) → versions_of docs path ≡ version_after core.initialised k path (versions_of core.docs path))

pub record IsWorkOf (core : State) (k : Class) (w : Work) : Type 0 where
  pub started : started_in w ≡ started_by core k
  pub edits : EditsAs core k w

-- a query starts to wait, where it isn't refused
pub record IsStart (core : State) (refusal : Option ℤ) (i : Id) (query : Query) (path : List ℕ) (w : Work) : Type 0 where
  pub started : started_in w ≡ started_if core refusal (queries i query path)
  pub no_edit : (docs : Docs) → Edits core.docs w docs → docs ≡ core.docs

-- the decision is that of a message
pub record Decides (core : State) (k : Class) (d : Decision) : Type 0 where
  pub replies : d.replies ≡ map effect.Reply (replies_of core k)
  pub told : IsEnding d.ends
  pub ends : end_behind d.ends ≡ ends_by core k
  pub works : IsWorkOf core k d.work
  pub initialised : d.initialised ≡ ((is_accepted core k && is_initialising k) || core.initialised)
  pub shut_down : d.shut_down ≡ ((is_accepted core k && is_shutdown k) || core.shut_down)
  pub ending : d.ending ≡ ending_after core k
  pub headers : (path : List ℕ) → known_at d.headers path ≡ known_after core.initialised (is_some (texts_of core.docs path)) k path (known_at core.headers path)

-- the requests that wait after it
abbrev pub waiting_after : State → Decision → List Waiting
waiting_after core d = others_than (end_behind d.ends) core.pending ++ started_in d.work

-- the decision was applied
pub record Applies (old : State) (d : Decision) (new : State) (effects : List Effect) : Type 0 where
  pub new_is : new ≡ record old {
    initialised = d.initialised;
    shut_down = d.shut_down;
    docs = new.docs;
    headers = d.headers;
    pending = waiting_after old d;
    messages = old.messages + 1;
    jobs = old.jobs + length (started_in d.work);
    ending = d.ending;
    finished = finishes d.ending (waiting_after old d);
    journal = old.journal ++ entry.In old.messages ∷ entries_of d.replies;
  }
  pub edited : Edits old.docs d.work new.docs
  pub effects_are : effects ≡ d.replies ++ (start_jobs (started_in d.work) ++ finish d.ending (waiting_after old d))

-- A decision that is applied takes its message.
use Rattle.std.proofs.Common.{◌≡◌, ◌⊎◌, inl, inr, ⊎_elim, ℕ, ℤ, ◌+◌, ◌<◌, List, [], ◌∷◌, ◌++◌, length, map, filter, refl, sym, ap, ◌∙◌, subst, Bool, true, false}
use Rattle.std.specs.Prelude.{Option, Some, None}
use Rattle.std.specs.List.{list_any, AllByRecursion}
use Rattle.cl_base.specs.declared.query.Query.{Query}
use Rattle.cl_headers.specs.Headers.{known_at}
use Rattle.cl_store.specs.declared.docs.Doc.{Doc}
use Rattle.cl_store.specs.Docs.{doc_at}
use Rattle.cl_rpc.specs.declared.id.Id.{Id}
use Rattle.cl_rpc.specs.declared.out.Reply.{Reply}
use Rattle.cl_rpc.specs.Classes.{Class, queries}
use Rattle.cl_history.specs.declared.entry.Entry.{Entry}
use Rattle.cl_history.specs.declared.entry.Entry.TheVariants as entry
use Rattle.cl_history.specs.Refusals.{is_open, refusal_of}
use Rattle.cl_history.specs.History.{End}
use Rattle.cl_core.specs.declared.core_state.State.{State}
use Rattle.cl_core.specs.declared.decision.Decision.{Decision}
use Rattle.cl_core.specs.declared.event.Effect.{Effect}
use Rattle.cl_core.specs.declared.event.Effect.TheVariants as effect
use Rattle.cl_core.specs.declared.waiting.Waiting.{Waiting}
use Rattle.cl_pending.specs.declared.waits.Which.{Which}
use Rattle.cl_pending.specs.declared.waits.Which.TheVariants as which
use Rattle.cl_core.specs.Waiting.{has_id, is_meant}
use Rattle.cl_core.specs.Numbered.{IsNumbered}
use Rattle.cl_core.specs.Deciding.{texts_of, core_refusal, ends_by, entry_of, meant_by, others_than, replies_of, started_by, started_if, waiting_for}
use Rattle.cl_core.specs.Steps.{Takes, entries_of, ending_after, finish, finishes, pending_after, start_jobs}
use Rattle.cl_core.specs.Decisions.{Applies, Decides, IsEnding, end_behind, started_in, waiting_after}
use Rattle.cl_core.proofs.Turning.{few_started}

-- the requests that are meant, by an id or by a document
pub meant_which : (w : Which) (ws : List Waiting) → IsEnding (Some w) → filter (is_meant w) ws ≡ meant_by (end_behind (Some w)) ws
meant_which (which.Id i) ws told = refl
meant_which (which.Document path) ws told = refl
meant_which (which.Message m) ws told = absurd told

-- ---- the request that starts to wait

pub above_started : (core : State) (k : Class) (started : List Waiting) → started ≡ started_by core k → IsNumbered core
    → AllByRecursion (λ (w : Waiting). AllByRecursion (λ (other : Waiting). other.job.message < w.job.message) core.pending) started
above_started core k started is numbered =
    let P : Waiting → Type 0 = λ w. AllByRecursion (λ (other : Waiting). other.job.message < w.job.message) core.pending in
    subst (AllByRecursion P) (sym is) (⊎_elim
    (λ none. subst (AllByRecursion P) (sym none) tt)
    (λ one. subst (AllByRecursion P) (sym one.1) (subst (λ (n : ℕ). AllByRecursion (λ (other : Waiting). other.job.message < n) core.pending) (sym one.2) numbered, tt))
    (few_started core k))

free_if_accepted : (initialised shut_down pending stands : Bool) (i : Id) (query : Query) (path : List ℕ) → refusal_of initialised shut_down pending stands (queries i query path) ≡ None → pending ≡ false
free_if_accepted initialised shut_down false stands i query path e = refl
free_if_accepted true true true stands i query path e = absurd (cc)
free_if_accepted true false true stands i query path e = absurd (cc)
free_if_accepted false shut_down true stands i query path e = absurd (cc)

abbrev IsFree : State → Waiting → Type 0
IsFree core w = list_any (has_id w.id) core.pending ≡ false

free_for : (core : State) (i : Id) (query : Query) (path : List ℕ) (o : Option Doc) → list_any (has_id i) core.pending ≡ false → AllByRecursion (IsFree core) (waiting_for core i query path o)
free_for core i query path None free = tt
free_for core i query path (Some doc) free = (free, tt)

free_query : (core : State) (o : Option ℤ) (i : Id) (query : Query) (path : List ℕ) → core_refusal core (queries i query path) ≡ o → AllByRecursion (IsFree core) (started_if core o (queries i query path))
free_query core (Some code) i query path e = tt
free_query core None i query path e =
    free_for core i query path (doc_at core.docs path)
    (free_if_accepted core.initialised core.shut_down (list_any (has_id i) core.pending) (is_open (texts_of core.docs) (Some path)) i query path e)

none_by : (P : Waiting → Type 0) (core : State) (o : Option ℤ) (k : Class) → started_if core None k ≡ [] → AllByRecursion P (started_if core o k)
none_by P core (Some code) k none = tt
none_by P core None k none = subst (AllByRecursion P) (sym none) tt

free_by : (core : State) (k : Class) → AllByRecursion (IsFree core) (started_by core k)
free_by core (queries i query path) = free_query core (core_refusal core (queries i query path)) i query path refl
free_by core k = none_by (IsFree core) core (core_refusal core k) k refl

pub free_started : (core : State) (k : Class) (started : List Waiting) → started ≡ started_by core k → AllByRecursion (IsFree core) started
free_started core k started is = subst (AllByRecursion (IsFree core)) (sym is) (free_by core k)

none_if : (core : State) (o : Option ℤ) (k : Class) → started_if core None k ≡ [] → started_if core o k ≡ []
none_if core (Some code) k none = refl
none_if core None k none = none

apart_by : (core : State) (k : Class) → (started_by core k ≡ []) ⊎ (ends_by core k ≡ None)
apart_by core (queries i query path) = inr refl
apart_by core k = inl (none_if core (core_refusal core k) k refl)

pub apart_started : (core : State) (k : Class) (started : List Waiting) (e : Option End) → started ≡ started_by core k → e ≡ ends_by core k → (started ≡ []) ⊎ (e ≡ None)
apart_started core k started e is same = ⊎_elim (λ none. inl (is ∙ none)) (λ none. inr (same ∙ none)) (apart_by core k)

-- ---- it is taken

entries_of_replies : (rs : List Reply) → entries_of (map effect.Reply rs) ≡ map entry_of rs
entries_of_replies [] = refl
entries_of_replies (r ∷ rs) = ap (λ (xs : List Entry). entry_of r ∷ xs) (entries_of_replies rs)

pub decided_takes : (old new : State) (k : Class) (d : Decision) (effects : List Effect) → old.awaited ≡ None → Decides old k d → Applies old d new effects → Takes old k new effects
decided_takes old new k d effects none is done =
    let waits : waiting_after old d ≡ pending_after old k =
    ap (λ (o : Option End). others_than o old.pending ++ started_in d.work) is.ends ∙ ap (λ (ws : List Waiting). others_than (ends_by old k) old.pending ++ ws) is.works.started in
    let edits = is.works.edits new.docs done.edited in
    record {
      config = ap (λ (s : State). s.config) done.new_is;
      messages = ap (λ (s : State). s.messages) done.new_is;
      loads = ap (λ (s : State). s.loads) done.new_is;
      jobs = ap (λ (s : State). s.jobs) done.new_is ∙ ap (λ (ws : List Waiting). old.jobs + length ws) is.works.started;
      journal = ap (λ (s : State). s.journal) done.new_is
          ∙ ap (λ (es : List Effect). old.journal ++ entry.In old.messages ∷ entries_of es) is.replies
          ∙ ap (λ (xs : List Entry). old.journal ++ entry.In old.messages ∷ xs) (entries_of_replies (replies_of old k));
      initialised = ap (λ (s : State). s.initialised) done.new_is ∙ is.initialised;
      shut_down = ap (λ (s : State). s.shut_down) done.new_is ∙ is.shut_down;
      texts = edits.0;
      versions = edits.1;
      headers = λ path. ap (λ (s : State). known_at s.headers path) done.new_is ∙ is.headers path;
      pending = ap (λ (s : State). s.pending) done.new_is ∙ waits;
      awaited = ap (λ (s : State). s.awaited) done.new_is ∙ none;
      ending = ap (λ (s : State). s.ending) done.new_is ∙ is.ending;
      finished = ap (λ (s : State). s.finished) done.new_is ∙ ap (λ (o : Option ℕ). finishes o (waiting_after old d)) is.ending ∙ ap (finishes (ending_after old k)) waits;
      effects_are = done.effects_are
          ∙ ap (λ (es : List Effect). es ++ (start_jobs (started_in d.work) ++ finish d.ending (waiting_after old d))) is.replies
          ∙ ap (λ (ws : List Waiting). map effect.Reply (replies_of old k) ++ (start_jobs ws ++ finish d.ending (waiting_after old d))) is.works.started
          ∙ ap (λ (o : Option ℕ). map effect.Reply (replies_of old k) ++ (start_jobs (started_by old k) ++ finish o (waiting_after old d))) is.ending
          ∙ ap (λ (ws : List Waiting). map effect.Reply (replies_of old k) ++ (start_jobs (started_by old k) ++ finish (ending_after old k) ws)) waits;
    }

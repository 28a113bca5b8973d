-- The messages of those that wait were received.
use Rattle.std.proofs.Common.{◌≡◌, ⊎_elim, ℕ, ℤ, ◌<◌, ◌≤◌, ◌+◌, List, [], ◌∷◌, ◌++◌, length, Bool, true, false, refl, sym, subst, arith, cond}
use Rattle.std.specs.Prelude.{Option, Some, None, nat_eq, not, filter, if◌then◌else◌}
use Rattle.std.specs.List.{AllByRecursion}
use Rattle.cl_base.specs.declared.query.Query.{Query}
use Rattle.cl_headers.specs.Headers.{Headers}
use Rattle.cl_store.specs.declared.docs.Doc.{Doc}
use Rattle.cl_store.specs.Docs.{doc_at}
use Rattle.cl_rpc.specs.declared.id.Id.{Id}
use Rattle.cl_rpc.specs.declared.out.How.{How}
use Rattle.cl_rpc.specs.declared.out.Out.{Out}
use Rattle.cl_rpc.specs.Classes.{Class, queries, class_of}
use Rattle.cl_query.specs.declared.job.Job.{Job}
use Rattle.cl_headers.specs.declared.dep.Dep.{Dep}
use Rattle.cl_core.specs.declared.core_state.State.{State}
use Rattle.cl_core.specs.declared.event.Event.{Event}
use Rattle.cl_core.specs.declared.event.Event.TheVariants as event
use Rattle.cl_core.specs.declared.event.Effect.{Effect}
use Rattle.cl_core.specs.declared.waiting.Waiting.{Waiting}
use Rattle.cl_core.specs.Deciding.{waiting_for, started_if, started_by, core_refusal, left_by}
use Rattle.cl_core.specs.Steps.{Steps, StepsOn, Takes, Completes, StartsAgain, Awaits, again, begun_again, hears}
use Rattle.cl_core.specs.Numbered.{IsNumbered}
use Rattle.cl_core.proofs.Asking.{all_left}
use Rattle.cl_core.proofs.JobStands.{by_known}
use Rattle.cl_core.proofs.Kept.{by_hearing}

abbrev pub Below : ℕ → List Waiting → Type 0
Below n ws = AllByRecursion (λ (w : Waiting). w.job.message < n) ws

raised : (n m : ℕ) (ws : List Waiting) → n ≤ m → Below n ws → Below m ws
raised n m [] le below = tt
raised n m (w ∷ ws) le below = let lt : w.job.message < n = below.0 in (omega arith, raised n m ws le below.1)

below_if : (b : Bool) (n : ℕ) (w : Waiting) (ws : List Waiting) → w.job.message < n → Below n ws → Below n (cond b (w ∷ ws) ws)
below_if true n w ws here more = (here, more)
below_if false n w ws here more = more

kept : (p : Waiting → Bool) (n : ℕ) (ws : List Waiting) → Below n ws → Below n (filter p ws)
kept p n [] below = tt
kept p n (w ∷ ws) below = below_if (p w) n w (filter p ws) below.0 (kept p n ws below.1)

joined : (n : ℕ) (us ws : List Waiting) → Below n us → Below n ws → Below n (us ++ ws)
joined n [] ws h k = k
joined n (u ∷ us) ws h k = (h.0, joined n us ws h.1 k)

again_by : (b : Bool) (n : ℕ) (w : Waiting) (number mark : ℕ) (headers : Headers) → w.job.message < n → (if b then record w { job = again number mark headers w.job } else w).job.message < n
again_by true n w number mark headers lt = lt
again_by false n w number mark headers lt = lt

below_again : (n m number mark : ℕ) (headers : Headers) (ws : List Waiting) → Below n ws → Below n (begun_again m number mark headers ws)
below_again n m number mark headers [] below = tt
below_again n m number mark headers (w ∷ ws) below = (again_by (nat_eq w.job.message m) n w number mark headers below.0, below_again n m number mark headers ws below.1)

-- ---- a message

waiting_below : (core : State) (i : Id) (query : Query) (path : List ℕ) (o : Option Doc) → Below (core.messages + 1) (waiting_for core i query path o)
waiting_below core i query path None = tt
waiting_below core i query path (Some doc) = (omega arith, tt)

query_below : (core : State) (o : Option ℤ) (i : Id) (query : Query) (path : List ℕ) → Below (core.messages + 1) (started_if core o (queries i query path))
query_below core (Some code) i query path = tt
query_below core None i query path = waiting_below core i query path (doc_at core.docs path)

none_below : (core : State) (n : ℕ) (o : Option ℤ) (k : Class) → started_if core None k ≡ [] → Below n (started_if core o k)
none_below core n (Some code) k none = tt
none_below core n None k none = subst (Below n) (sym none) tt

started_below : (core : State) (k : Class) → Below (core.messages + 1) (started_by core k)
started_below core (queries i query path) = query_below core (core_refusal core (queries i query path)) i query path
started_below core k = none_below core (core.messages + 1) (core_refusal core k) k refl

numbered_as : (new : State) (n : ℕ) (ws : List Waiting) → new.messages ≡ n → new.pending ≡ ws → Below n ws → IsNumbered new
numbered_as new n ws e f below = subst (λ (m : ℕ). Below m new.pending) (sym e) (subst (Below n) (sym f) below)

message_numbered : (old new : State) (k : Class) (effects : List Effect) → Takes old k new effects → IsNumbered old → IsNumbered new
message_numbered old new k effects takes numbered =
    numbered_as new (old.messages + 1) _ takes.messages takes.pending
    (joined (old.messages + 1) (left_by old k) (started_by old k)
    (raised old.messages (old.messages + 1) (left_by old k) (omega arith) (all_left (λ (w : Waiting). w.job.message < old.messages) old k numbered)) (started_below old k))

-- ---- a step

job_numbered : (old new : State) (worked : Job) (seen : List Dep) (mark : ℕ) (h : How) (o : Out) (effects : List Effect) → Completes old worked seen mark h o new effects → IsNumbered old → IsNumbered new
job_numbered old new worked seen mark h o effects c numbered = ⊎_elim
    (λ r. subst IsNumbered (sym r.new_is) (kept (λ w. not (nat_eq w.job.message r.waiting.job.message)) old.messages old.pending numbered))
    (λ q. subst IsNumbered (sym q.same) numbered) c

numbered_on : (old new : State) (e : Event) (effects : List Effect) → StepsOn old e new effects → IsNumbered old → IsNumbered new
numbered_on old new (event.Message p) effects takes numbered = message_numbered old new (class_of p) effects takes numbered
numbered_on old new (event.Loaded path read) effects c numbered = ⊎_elim
    (λ r. subst IsNumbered (sym r.new_is) (below_again old.messages _ old.jobs (length old.journal + 1) new.headers old.pending numbered))
    (λ q. subst IsNumbered (sym q.same) numbered) c
numbered_on old new (event.Done done) effects c numbered = job_numbered old new done.job done.seen _ _ _ effects c numbered
numbered_on old new (event.Need need) effects c numbered = ⊎_elim
    (λ r. by_known _ (StartsAgain old r.waiting.job new effects) (Awaits old r.waiting.job need.path new effects) (IsNumbered new) r.so
    (λ a. subst IsNumbered (sym a.new_is) (below_again old.messages r.waiting.job.message old.jobs (length old.journal) old.headers old.pending numbered))
    (λ e a. subst IsNumbered (sym a.new_is) numbered))
    (λ q. subst IsNumbered (sym q.same) numbered) c
numbered_on old new (event.NoMemory job) effects c numbered = job_numbered old new job [] _ _ _ effects c numbered
numbered_on old new (event.End e) effects stops numbered = subst IsNumbered (sym stops.same) numbered

pub step_numbered : (old new : State) (e : Event) (effects : List Effect) → Steps old e new effects → IsNumbered old → IsNumbered new
step_numbered old new e effects steps numbered =
    by_hearing (hears old e) (StepsOn old e new effects) ((new ≡ old) × (effects ≡ [])) (IsNumbered new) steps
    (λ heard on. numbered_on old new e effects on numbered) (λ q. subst IsNumbered (sym q.0) numbered)

-- A session that does each job before it takes the next message.
use Rattle.std.proofs.Common.{◌≡◌, ◌⊎◌, inl, inr, ⊎_elim, ℕ, ℤ, ◌+◌, List, [], ◌∷◌, ◌++◌, length, map, Bool, true, false, refl, sym, ap, ◌∙◌, subst, arith, append-nil, eq-eqb, zero, suc}
use Rattle.std.specs.Prelude.{Contains, Option, Some, None, if◌then◌else◌, ◌&&◌, ◌||◌, option_map, unwrap_or}
use Rattle.std.specs.Bool.{MatchBool}
use Rattle.std.specs.Str.{bytes_eq}
use Rattle.std.proofs.lemmas.Bool.{false≢true}
use Rattle.std.proofs.lemmas.Slice.Eq.{bytes_eq-Decides}
use Rattle.cl_headers.specs.Headers.{Headers}
use Rattle.cl_base.specs.declared.query.Query.{Query}
use Rattle.cl_base.specs.declared.headers.Read.{Read}
use Rattle.cl_store.specs.declared.docs.Doc.{Doc}
use Rattle.cl_store.specs.Docs.{doc_at}
use Rattle.cl_query.specs.declared.job.Job.{Job}
use Rattle.cl_headers.specs.declared.dep.Dep.{Dep}
use Rattle.cl_query.specs.Seen.{Agrees}
use Rattle.cl_query.specs.Over.{IsOver, work_of}
use Rattle.cl_rpc.specs.declared.id.Id.{Id}
use Rattle.cl_rpc.specs.declared.out.How.{How}
use Rattle.cl_rpc.specs.declared.out.Out.{Out}
use Rattle.cl_rpc.specs.declared.out.How.TheVariants as how
use Rattle.cl_rpc.specs.declared.out.Out.TheVariants as out
use Rattle.cl_history.specs.Refusals.{is_exit, out_of_memory}
use Rattle.cl_rpc.specs.declared.out.Reply.{Reply}
use Rattle.cl_rpc.specs.Classes.{Class, queries, exits, class_of}
use Rattle.cl_history.specs.History.{End}
use Rattle.cl_history.specs.Accepted.{is_shutdown}
use Rattle.cl_core.specs.declared.core_state.Core.{Core}
use Rattle.cl_core.specs.declared.core_state.Awaited.{Awaited}
use Rattle.cl_core.specs.declared.event.Event.{Event}
use Rattle.cl_core.specs.declared.event.Event.TheVariants as event
use Rattle.cl_core.specs.declared.event.Ending.{Ending}
use Rattle.cl_core.specs.declared.event.Effect.{Effect}
use Rattle.cl_core.specs.declared.event.Effect.TheVariants as effect
use Rattle.cl_core.specs.declared.waiting.Waiting.{Waiting}
use Rattle.cl_core.specs.Deciding.{core_refusal, ends_by, others_than, replies_of, started_by, started_if, waiting_for}
use Rattle.cl_core.specs.Steps.{Takes, Completes, Stops, StartsAgain, Awaits, Lacks, Loads, IsLost, Steps, StepsOn, hears, awaited_message, again, begun_again, start_jobs, finish, finish_if, finishes, is_accepted, first_ending, status_of, ending_after, left_after, pending_after}
use Rattle.cl_pending.specs.Meant.{is_nil}
use Rattle.cl_core.specs.Standing.{jobs_of, loads_of, finish_of, IsIdle, WorksOn, AwaitsRead, TakesTurn, EndsTurn, Restarts, ReadsFirst, EndsSession, Turns, messages_taken, reads_taken}
use Rattle.cl_core.proofs.JobStands.{by_known}

abbrev pub job_of : Waiting → Job
job_of w = w.job

-- ---- the jobs, the reads and the end among the effects

pub jobs_after_replies : (rs : List Reply) (es : List Effect) → jobs_of (map effect.Reply rs ++ es) ≡ jobs_of es
jobs_after_replies [] es = refl
jobs_after_replies (r ∷ rs) es = jobs_after_replies rs es

pub jobs_started : (ws : List Waiting) (es : List Effect) → jobs_of (start_jobs ws ++ es) ≡ map job_of ws ++ jobs_of es
jobs_started [] es = refl
jobs_started (w ∷ ws) es = ap (λ (jobs : List Job). w.job ∷ jobs) (jobs_started ws es)

pub no_jobs_of_finish : (o : Option ℕ) (none_left : Bool) → jobs_of (finish_if o none_left) ≡ []
no_jobs_of_finish None none_left = refl
no_jobs_of_finish (Some status) true = refl
no_jobs_of_finish (Some status) false = refl

loads_after_replies : (rs : List Reply) (es : List Effect) → loads_of (map effect.Reply rs ++ es) ≡ loads_of es
loads_after_replies [] es = refl
loads_after_replies (r ∷ rs) es = loads_after_replies rs es

loads_after_jobs : (ws : List Waiting) (es : List Effect) → loads_of (start_jobs ws ++ es) ≡ loads_of es
loads_after_jobs [] es = refl
loads_after_jobs (w ∷ ws) es = loads_after_jobs ws es

no_loads_of_finish : (o : Option ℕ) (none_left : Bool) → loads_of (finish_if o none_left) ≡ []
no_loads_of_finish None none_left = refl
no_loads_of_finish (Some status) true = refl
no_loads_of_finish (Some status) false = refl

pub finish_after_replies : (rs : List Reply) (es : List Effect) → finish_of (map effect.Reply rs ++ es) ≡ finish_of es
finish_after_replies [] es = refl
finish_after_replies (r ∷ rs) es = finish_after_replies rs es

pub finish_after_jobs : (ws : List Waiting) (es : List Effect) → finish_of (start_jobs ws ++ es) ≡ finish_of es
finish_after_jobs [] es = refl
finish_after_jobs (w ∷ ws) es = finish_after_jobs ws es

no_finish : (o : Option ℕ) (none_left : Bool) → o ≡ None → finish_of (finish_if o none_left) ≡ None
no_finish o none_left e = rw e refl

-- ---- what a message starts

pub jobs_by : (old new : Core) (k : Class) (effects : List Effect) → Takes old k new effects → jobs_of effects ≡ map job_of (started_by old k)
jobs_by old new k effects takes =
    ap jobs_of takes.effects_are
    ∙ jobs_after_replies (replies_of old k) (start_jobs (started_by old k) ++ finish (ending_after old k) (pending_after old k))
    ∙ jobs_started (started_by old k) (finish (ending_after old k) (pending_after old k))
    ∙ ap (λ (more : List Job). map job_of (started_by old k) ++ more) (no_jobs_of_finish (ending_after old k) (is_nil (pending_after old k)))
    ∙ append-nil (map job_of (started_by old k))

pub loads_by : (old new : Core) (k : Class) (effects : List Effect) → Takes old k new effects → loads_of effects ≡ []
loads_by old new k effects takes =
    ap loads_of takes.effects_are
    ∙ loads_after_replies (replies_of old k) (start_jobs (started_by old k) ++ finish (ending_after old k) (pending_after old k))
    ∙ loads_after_jobs (started_by old k) (finish (ending_after old k) (pending_after old k))
    ∙ no_loads_of_finish (ending_after old k) (is_nil (pending_after old k))

finish_by : (old new : Core) (k : Class) (effects : List Effect) → Takes old k new effects → finish_of effects ≡ finish_of (finish (ending_after old k) (pending_after old k))
finish_by old new k effects takes =
    ap finish_of takes.effects_are
    ∙ finish_after_replies (replies_of old k) (start_jobs (started_by old k) ++ finish (ending_after old k) (pending_after old k))
    ∙ finish_after_jobs (started_by old k) (finish (ending_after old k) (pending_after old k))

abbrev pub OneAtMost : Core → List Waiting → Type 0
OneAtMost core ws = (ws ≡ []) ⊎ ((w : Waiting) × (ws ≡ w ∷ []) × (w.job.message ≡ core.messages))

few_for : (core : Core) (i : Id) (query : Query) (path : List ℕ) (o : Option Doc) → OneAtMost core (waiting_for core i query path o)
few_for core i query path None = inl refl
few_for core i query path (Some doc) = inr (_, refl, refl)

few_query : (core : Core) (o : Option ℤ) (i : Id) (query : Query) (path : List ℕ) → OneAtMost core (started_if core o (queries i query path))
few_query core (Some code) i query path = inl refl
few_query core None i query path = few_for core i query path (doc_at core.docs path)

few_none : (core : Core) (o : Option ℤ) (k : Class) → started_if core None k ≡ [] → OneAtMost core (started_if core o k)
few_none core (Some code) k none = inl refl
few_none core None k none = inl none

pub few_started : (core : Core) (k : Class) → OneAtMost core (started_by core k)
few_started core (queries i query path) = few_query core (core_refusal core (queries i query path)) i query path
few_started core k = few_none core (core_refusal core k) k refl

others_none : (o : Option End) (ws : List Waiting) → ws ≡ [] → others_than o ws ≡ []
others_none None ws e = e
others_none (Some end) ws e = rw e refl

only_started : (core : Core) (k : Class) → core.pending ≡ [] → pending_after core k ≡ started_by core k
only_started core k none = ap (λ (ws : List Waiting). ws ++ started_by core k) (others_none (ends_by core k) core.pending none)

pub exit_starts_none : (core : Core) (k : Class) → is_exit k ≡ true → started_by core k ≡ []
exit_starts_none core exits e = refl
exit_starts_none core _ e = absurd (false≢true e)

pub exit_keeps : (k : Class) (accepted before : Bool) → is_exit k ≡ true → ((accepted && is_shutdown k) || before) ≡ before
exit_keeps exits true before e = refl
exit_keeps exits false before e = refl
exit_keeps _ accepted before e = absurd (false≢true e)

-- ---- a message

take_by : (b : Bool) (old new : Core) (k : Class) (effects : List Effect) → is_exit k ≡ b → Takes old k new effects → IsIdle old → TakesTurn b old new effects
take_by true old new k effects is takes idle =
    let none : started_by old k ≡ [] = exit_starts_none old k is in
    let left : pending_after old k ≡ [] = only_started old k idle.none_waits ∙ none in
    let status : ℕ = if old.shut_down then 0 else 1 in
    let ends : ending_after old k ≡ Some status = rw (is, idle.goes_on) refl in (
      jobs_by old new k effects takes ∙ ap (map job_of) none,
      loads_by old new k effects takes,
      finish_by old new k effects takes ∙ rw (ends, left) refl,
      takes.pending ∙ left,
      takes.shut_down ∙ exit_keeps k (is_accepted old k) old.shut_down is,
    )
take_by false old new k effects is takes idle =
    let ends : ending_after old k ≡ None = rw is idle.goes_on in
    let over : new.finished ≡ false = takes.finished ∙ rw ends refl in (
      loads_by old new k effects takes,
      finish_by old new k effects takes ∙ no_finish (ending_after old k) (is_nil (pending_after old k)) ends,
      ⊎_elim
          (λ none. inl (
            jobs_by old new k effects takes ∙ ap (map job_of) none,
            record { none_waits = takes.pending ∙ only_started old k idle.none_waits ∙ none; none_awaited = takes.awaited; goes_on = takes.ending ∙ ends; not_over = over },
          ))
          (λ one. inr (
            one.0.job,
            jobs_by old new k effects takes ∙ ap (map job_of) one.1,
            record {
              waiting = one.0;
              only = takes.pending ∙ only_started old k idle.none_waits ∙ one.1;
              its_job = refl;
              none_awaited = takes.awaited;
              goes_on = takes.ending ∙ ends;
              not_over = over;
            },
          ))
          (few_started old k),
    )

-- ---- the one job that is out ends

none_after : (core : Core) (w : Waiting) (job : Job) → core.pending ≡ w ∷ [] → w.job ≡ job → left_after core job.message ≡ []
none_after core w job one same = rw (one, same, eq-eqb job.message job.message refl) refl

here_one : (ws : List Waiting) (w : Waiting) → ws ≡ w ∷ [] → Contains ws w
here_one ws w is = subst (λ (vs : List Waiting). Contains vs w) (sym is) (0, omega arith, refl)

-- the only one that waits is the one that is found
one_found : (ws : List Waiting) (w v : Waiting) → ws ≡ w ∷ [] → Contains ws v → v ≡ w
one_found ws w v one among = found (subst (λ (us : List Waiting). Contains us v) one among)
  where
    found : Contains (w ∷ []) v → v ≡ w
    found (zero, lt, e) = sym e
    found (suc n, lt, e) = absurd (omega arith)

-- work on a job whose headers say what was seen is work on it
over_itself : (worked : Job) (seen : List Dep) (job : Job) → job ≡ worked → Agrees worked.headers seen → IsOver worked seen job
over_itself worked seen job same agrees = record { same = ap work_of (sym same); agrees = subst (λ (j : Job). Agrees j.headers seen) (sym same) agrees }

ends_turn : (old new : Core) (worked : Job) (seen : List Dep) (mark : ℕ) (h : How) (o : Out) (effects : List Effect)
    → Agrees worked.headers seen → Completes old worked seen mark h o new effects → WorksOn old worked → (messages_taken new ≡ messages_taken old) × (reads_taken new ≡ reads_taken old) × EndsTurn new effects
ends_turn old new worked seen mark h o effects agrees c works = ⊎_elim
    (λ r.
    let job = r.waiting.job in
    let its : works.waiting.job ≡ job = ap (λ (w : Waiting). w.job) (sym (one_found old.pending works.waiting r.waiting works.only r.waits)) in
    let none : left_after old job.message ≡ [] = none_after old works.waiting job works.only its in (
      ap messages_taken r.new_is,
      ap reads_taken r.new_is,
      record {
        idle = record {
          none_waits = ap (λ (core : Core). core.pending) r.new_is ∙ none;
          none_awaited = ap (λ (core : Core). core.awaited) r.new_is ∙ works.none_awaited;
          goes_on = ap (λ (core : Core). core.ending) r.new_is ∙ works.goes_on;
          not_over = ap (λ (core : Core). core.finished) r.new_is ∙ ap (λ (e : Option ℕ). finishes e (left_after old job.message)) works.goes_on;
        };
        none_started = ap jobs_of r.effects_are ∙ no_jobs_of_finish old.ending (is_nil (left_after old job.message));
        none_loaded = ap loads_of r.effects_are ∙ no_loads_of_finish old.ending (is_nil (left_after old job.message));
        goes_on = ap finish_of r.effects_are ∙ no_finish old.ending (is_nil (left_after old job.message)) works.goes_on;
      },
    ))
    (λ q. absurd (q.not_out works.waiting (here_one old.pending works.waiting works.only) (over_itself worked seen works.waiting.job works.its_job agrees))) c

-- ---- it begins again, or awaits a read

again_one : (ws : List Waiting) (w : Waiting) (m number mark : ℕ) (headers : Headers) → ws ≡ w ∷ [] → w.job.message ≡ m
    → begun_again m number mark headers ws ≡ record w { job = again number mark headers w.job } ∷ []
again_one ws w m number mark headers one same = rw (one, same, eq-eqb m m refl) refl

need_turn : (old new : Core) (worked : Job) (seen : List Dep) (path : List ℕ) (effects : List Effect) → Agrees worked.headers seen → Lacks old worked seen path new effects → WorksOn old worked
    → (messages_taken new ≡ messages_taken old) × (reads_taken new ≡ reads_taken old) × (Restarts new effects ⊎ ReadsFirst path new effects)
need_turn old new worked seen path effects agrees c works = ⊎_elim
    (λ r.
    let job = r.waiting.job in
    let its : works.waiting.job ≡ job = ap (λ (w : Waiting). w.job) (sym (one_found old.pending works.waiting r.waiting works.only r.waits)) in
    by_known _ (StartsAgain old job new effects) (Awaits old job path new effects)
    ((messages_taken new ≡ messages_taken old) × (reads_taken new ≡ reads_taken old) × (Restarts new effects ⊎ ReadsFirst path new effects)) r.so
    (λ a. (
      ap messages_taken a.new_is,
      ap reads_taken a.new_is,
      inl (record {
        job = again old.jobs (length old.journal) old.headers job;
        started = ap jobs_of a.effects_are;
        none_loaded = ap loads_of a.effects_are;
        goes_on = ap finish_of a.effects_are;
        works = record {
          waiting = record works.waiting { job = again old.jobs (length old.journal) old.headers works.waiting.job };
          only = ap (λ (core : Core). core.pending) a.new_is
              ∙ again_one old.pending works.waiting job.message old.jobs (length old.journal) old.headers works.only (ap (λ (j : Job). j.message) its);
          its_job = ap (again old.jobs (length old.journal) old.headers) its;
          none_awaited = ap (λ (core : Core). core.awaited) a.new_is ∙ works.none_awaited;
          goes_on = ap (λ (core : Core). core.ending) a.new_is ∙ works.goes_on;
          not_over = ap (λ (core : Core). core.finished) a.new_is ∙ works.not_over;
        };
      }),
    ))
    (λ e a. (
      ap messages_taken a.new_is,
      ap reads_taken a.new_is,
      inr (record {
        none_started = ap jobs_of a.effects_are;
        loads = ap loads_of a.effects_are;
        goes_on = ap finish_of a.effects_are;
        awaits = record {
          waiting = works.waiting;
          only = ap (λ (core : Core). core.pending) a.new_is ∙ works.only;
          message = job.message;
          its_message = ap (λ (j : Job). j.message) its;
          awaited = ap (λ (core : Core). core.awaited) a.new_is;
          goes_on = ap (λ (core : Core). core.ending) a.new_is ∙ works.goes_on;
          not_over = ap (λ (core : Core). core.finished) a.new_is ∙ works.not_over;
        };
      }),
    )))
    (λ q. absurd (q.not_out works.waiting (here_one old.pending works.waiting works.only) (over_itself worked seen works.waiting.job works.its_job agrees))) c

load_turn : (old new : Core) (message : ℕ) (path : List ℕ) (read : Read) (effects : List Effect) → Loads old message path read new effects ⊎ IsLost old message new effects → AwaitsRead old path → message ≡ awaited_message old
    → (messages_taken new ≡ messages_taken old) × (reads_taken new ≡ reads_taken old + 1) × Restarts new effects
load_turn old new message path read effects c awaits number =
    let its : awaits.message ≡ message = sym (ap (λ (o : Option Awaited). unwrap_or (option_map (λ (a : Awaited). a.message) o) 0) awaits.awaited) ∙ sym number in ⊎_elim
    (λ r. (
      ap messages_taken r.new_is,
      ap reads_taken r.new_is,
      record {
        job = again old.jobs (length old.journal + 1) new.headers r.waiting.job;
        started = ap jobs_of r.effects_are;
        none_loaded = ap loads_of r.effects_are;
        goes_on = ap finish_of r.effects_are;
        works = record {
          waiting = record awaits.waiting { job = again old.jobs (length old.journal + 1) new.headers awaits.waiting.job };
          only = ap (λ (core : Core). core.pending) r.new_is
              ∙ again_one old.pending awaits.waiting message old.jobs (length old.journal + 1) new.headers awaits.only (awaits.its_message ∙ its);
          its_job = ap (λ (w : Waiting). again old.jobs (length old.journal + 1) new.headers w.job) (sym (one_found old.pending awaits.waiting r.waiting awaits.only r.waits));
          none_awaited = ap (λ (core : Core). core.awaited) r.new_is;
          goes_on = ap (λ (core : Core). core.ending) r.new_is ∙ awaits.goes_on;
          not_over = ap (λ (core : Core). core.finished) r.new_is ∙ awaits.not_over;
        };
      },
    ))
    (λ q. absurd (q.not_there awaits.waiting (here_one old.pending awaits.waiting awaits.only) (awaits.its_message ∙ its))) c

stops_idle : (old new : Core) (e : Ending) (effects : List Effect) → Stops old e new effects → IsIdle old
    → (messages_taken new ≡ messages_taken old) × (reads_taken new ≡ reads_taken old) × EndsSession e new effects
stops_idle old new e effects stops idle = (
  ap messages_taken stops.same,
  ap reads_taken stops.same,
  record {
    none_waits = ap (λ (core : Core). core.pending) stops.same ∙ idle.none_waits;
    effects_are = stops.effects_are ∙ ap (λ (o : Option ℕ). finish (first_ending o (status_of e)) old.pending) idle.goes_on ∙ ap (finish (Some (status_of e))) idle.none_waits;
  },
)

-- ---- a step

heard_on : (b : Bool) (P Q : Type 0) → b ≡ true → MatchBool b P Q → P
heard_on true P Q e m = m
heard_on false P Q e m = absurd (false≢true e)

same_path : (path : List ℕ) → bytes_eq path path ≡ true
same_path path = (bytes_eq-Decides path path).1 refl

on : (old new : Core) (e : Event) (effects : List Effect) → hears old e ≡ true → Steps old e new effects → StepsOn old e new effects
on old new e effects heard steps = heard_on (hears old e) (StepsOn old e new effects) ((new ≡ old) × (effects ≡ [])) heard steps

pub step_turns : (old new : Core) (e : Event) (effects : List Effect) → Steps old e new effects → Turns old e new effects
step_turns old new (event.Message p) effects steps = λ idle.
    let takes : Takes old (class_of p) new effects = on old new (event.Message p) effects (rw (idle.not_over, idle.none_awaited) refl) steps in
    (takes.messages, takes.loads, take_by (is_exit (class_of p)) old new (class_of p) effects refl takes idle)
step_turns old new (event.Loaded path read) effects steps = λ awaits.
    load_turn old new (awaited_message old) path read effects (on old new (event.Loaded path read) effects (rw (awaits.not_over, awaits.awaited) (same_path path)) steps) awaits refl
step_turns old new (event.Done done) effects steps = λ works.
    ends_turn old new done.job done.seen done.job.mark how.Answered (out.Answer done.answer) effects done.agrees (on old new (event.Done done) effects (rw (works.not_over, works.none_awaited) refl) steps) works
step_turns old new (event.Need need) effects steps = λ works.
    need_turn old new need.job need.seen need.path effects need.agrees (on old new (event.Need need) effects (rw (works.not_over, works.none_awaited) refl) steps) works
step_turns old new (event.NoMemory job) effects steps = λ works.
    ends_turn old new job [] (length old.journal) how.Memory (out.Error out_of_memory) effects tt (on old new (event.NoMemory job) effects (rw (works.not_over, works.none_awaited) refl) steps) works
step_turns old new (event.End e) effects steps = λ idle. stops_idle old new e effects (on old new (event.End e) effects (rw (idle.not_over, idle.none_awaited) refl) steps) idle

-- Each job of a run is over its document's text and the headers at its mark, which is the journal's length.
use Rattle.std.proofs.Common.{◌≡◌, ◌⊎◌, ⊎_elim, ℕ, ℤ, ◌+◌, List, [], ◌∷◌, ◌++◌, map, length, Bool, true, false, refl, sym, ap, ◌∙◌, subst, arith, append_assoc, eq-eqb, MatchBool}
use Rattle.std.specs.Prelude.{Contains, Option, Some, None}
use Rattle.std.specs.List.{AllByRecursion}
use Rattle.std.proofs.lemmas.List.{length-append, length-reverse, length-map}
use Rattle.std.proofs.lemmas.List.Elements.{Contains-append_right}
use Rattle.cl_base.specs.declared.query.Query.{Query}
use Rattle.cl_base.specs.declared.headers.Read.{Read}
use Rattle.cl_headers.specs.Headers.{Headers}
use Rattle.cl_store.specs.declared.docs.Doc.{Doc}
use Rattle.cl_store.specs.Docs.{doc_at}
use Rattle.cl_query.specs.declared.job.Job.{Job}
use Rattle.cl_headers.specs.declared.dep.Dep.{Dep}
use Rattle.cl_rpc.specs.declared.id.Id.{Id}
use Rattle.cl_rpc.specs.declared.out.How.{How}
use Rattle.cl_rpc.specs.declared.out.Out.{Out}
use Rattle.cl_rpc.specs.Classes.{Class, queries, class_of}
use Rattle.cl_history.specs.declared.entry.Entry.{Entry}
use Rattle.cl_history.specs.declared.entry.Entry.TheVariants as entry
use Rattle.cl_history.specs.Given.{Given}
use Rattle.cl_history.specs.Headers.{AreHeadersAt, past_at}
use Rattle.cl_core.specs.declared.core_state.Core.{Core}
use Rattle.cl_core.specs.declared.event.Event.{Event}
use Rattle.cl_core.specs.declared.event.Event.TheVariants as event
use Rattle.cl_core.specs.declared.event.Ending.{Ending}
use Rattle.cl_core.specs.declared.event.Effect.{Effect}
use Rattle.cl_core.specs.declared.waiting.Waiting.{Waiting}
use Rattle.cl_core.specs.Waiting.{number_of}
use Rattle.cl_core.specs.Deciding.{core_refusal, entry_of, left_by, replies_of, replies_by, started_by, started_if, waiting_for}
use Rattle.cl_core.specs.Steps.{Takes, Completes, Stops, StartsAgain, Awaits, Lacks, Loads, IsLost, Steps, StepsOn, again, with_again, begun_again, awaited_message, first_ending, hears, left_after, status_of}
use Rattle.cl_pending.specs.Meant.{is_nil}
use Rattle.cl_core.specs.Standing.{Asks, StandsFor, jobs_of, journal_of, past_of}
use Rattle.cl_core.specs.Runs.{Put, TakesPut, Runs}
use Rattle.cl_core.specs.Jobs.{IsStarted, AllStarted, AreNumberedFrom, jobs_so_far}
use Rattle.cl_core.proofs.Onto.{past_whole}
use Rattle.cl_core.proofs.Waits.{contains_as, one_of}
use Rattle.cl_core.proofs.Turning.{job_of, jobs_by, no_jobs_of_finish}
use Rattle.cl_core.proofs.JobStands.{by_known}
use Rattle.cl_core.proofs.Kept.{by_hearing}
use Rattle.cl_core.proofs.Running.{starts, goes_run}

-- a job is that of a request that waits, marked with the journal's length
record IsOfNew (new : Core) (job : Job) : Type 0 where
  pub waiting : Waiting
  pub waits : Contains new.pending waiting
  pub its_job : waiting.job ≡ job
  pub marked : job.mark ≡ length new.journal

is_started : (given : Given) (new : Core) (job : Job) → StandsFor given new → IsOfNew new job → IsStarted given new.journal job
is_started given new job s n =
    subst (IsStarted given new.journal) n.its_job (
    let a : Asks given (past_of new) n.waiting = one_of (Asks given (past_of new)) new.pending n.waiting s.asks n.waits in
    let mark : n.waiting.job.mark ≡ length (past_of new) = ap (λ (j : Job). j.mark) n.its_job ∙ n.marked ∙ sym (length-reverse new.journal) in
    record {
      works = subst (λ (ns : List ℕ). Contains ns n.waiting.job.message) s.waiting (contains_as number_of new.pending n.waiting n.waits);
      id = n.waiting.id;
      asked = a.said_so;
      over = a.over;
      at_version = a.at_version;
      config = a.config;
      marked = ap (λ (j : Job). j.mark) n.its_job ∙ n.marked;
      headers = subst (λ (some : List Entry). AreHeadersAt given some n.waiting.job.headers) (ap (past_at (past_of new)) mark ∙ past_whole (past_of new)) a.headers;
    })

each_started : (given : Given) (new : Core) (jobs : List Job) → StandsFor given new → AllByRecursion (IsOfNew new) jobs → AllByRecursion (IsStarted given new.journal) jobs
each_started given new [] s all = tt
each_started given new (job ∷ jobs) s all = (is_started given new job s all.0, each_started given new jobs s all.1)

-- ---- a message

-- the marks of what it starts, and how many replies there are then
mark_for : (core : Core) (i : Id) (query : Query) (path : List ℕ) (o : Option Doc) → AllByRecursion (λ (w : Waiting). w.job.mark ≡ length (core.journal ++ entry.In core.messages ∷ [])) (waiting_for core i query path o)
mark_for core i query path None = tt
mark_for core i query path (Some doc) = let long = length-append core.journal (entry.In core.messages ∷ []) in (omega (arith, long), tt)

mark_query : (core : Core) (o : Option ℤ) (i : Id) (query : Query) (path : List ℕ)
    → AllByRecursion (λ (w : Waiting). w.job.mark ≡ length (core.journal ++ entry.In core.messages ∷ map entry_of (replies_by core (length core.journal + 1) o (queries i query path)))) (started_if core o (queries i query path))
mark_query core (Some code) i query path = tt
mark_query core None i query path = mark_for core i query path (doc_at core.docs path)

mark_none : (core : Core) (P : Waiting → Type 0) (o : Option ℤ) (k : Class) → started_if core None k ≡ [] → AllByRecursion P (started_if core o k)
mark_none core P (Some code) k none = tt
mark_none core P None k none = subst (AllByRecursion P) (sym none) tt

mark_by : (core : Core) (k : Class) → AllByRecursion (λ (w : Waiting). w.job.mark ≡ length (core.journal ++ entry.In core.messages ∷ map entry_of (replies_of core k))) (started_by core k)
mark_by core (queries i query path) = mark_query core (core_refusal core (queries i query path)) i query path
mark_by core k = mark_none core (λ (w : Waiting). w.job.mark ≡ length (core.journal ++ entry.In core.messages ∷ map entry_of (replies_of core k))) (core_refusal core k) k refl

each_new : (new : Core) (front ws : List Waiting) → new.pending ≡ front ++ ws → AllByRecursion (λ (w : Waiting). w.job.mark ≡ length new.journal) ws → AllByRecursion (IsOfNew new) (map job_of ws)
each_new new front [] is marks = tt
each_new new front (w ∷ ws) is marks = (
  record {
    waiting = w;
    waits = subst (λ (vs : List Waiting). Contains vs w) (sym is) (Contains-append_right front (w ∷ ws) w (0, omega arith, refl));
    its_job = refl;
    marked = marks.0;
  },
  each_new new (front ++ w ∷ []) ws (is ∙ sym (append_assoc front (w ∷ []) ws)) marks.1,
)

message_new : (old new : Core) (k : Class) (effects : List Effect) → Takes old k new effects → AllByRecursion (IsOfNew new) (jobs_of effects)
message_new old new k effects takes =
    subst (AllByRecursion (IsOfNew new)) (sym (jobs_by old new k effects takes))
    (each_new new (left_by old k) (started_by old k) takes.pending
    (subst (λ (j : List Entry). AllByRecursion (λ (w : Waiting). w.job.mark ≡ length j) (started_by old k)) (sym takes.journal) (mark_by old k)))

-- ---- a job that begins again

again_new : (new : Core) (ws : List Waiting) (w : Waiting) (m number : ℕ) (headers : Headers) (jobs : List Job) → new.pending ≡ begun_again m number (length new.journal) headers ws → Contains ws w → w.job.message ≡ m
    → jobs ≡ again number (length new.journal) headers w.job ∷ [] → AllByRecursion (IsOfNew new) jobs
again_new new ws w m number headers jobs is among same started =
    subst (AllByRecursion (IsOfNew new)) (sym started) (
      record {
        waiting = with_again m number (length new.journal) headers w;
        waits = subst (λ (vs : List Waiting). Contains vs (with_again m number (length new.journal) headers w)) (sym is) (contains_as (with_again m number (length new.journal) headers) ws w among);
        its_job = rw (eq-eqb w.job.message m same) refl;
        marked = refl;
      },
      tt,
    )

none_new : (new : Core) (jobs : List Job) → jobs ≡ [] → AllByRecursion (IsOfNew new) jobs
none_new new jobs none = subst (AllByRecursion (IsOfNew new)) (sym none) tt

-- ---- a step

pub no_jobs : (old new : Core) (worked : Job) (seen : List Dep) (mark : ℕ) (h : How) (o : Out) (effects : List Effect) → Completes old worked seen mark h o new effects → jobs_of effects ≡ []
no_jobs old new worked seen mark h o effects c = ⊎_elim (λ r. ap jobs_of r.effects_are ∙ no_jobs_of_finish old.ending (is_nil (left_after old r.waiting.job.message))) (λ q. ap jobs_of q.none) c

pub no_jobs_at_end : (old new : Core) (e : Ending) (effects : List Effect) → Stops old e new effects → jobs_of effects ≡ []
no_jobs_at_end old new e effects stops = ap jobs_of stops.effects_are ∙ no_jobs_of_finish (first_ending old.ending (status_of e)) (is_nil old.pending)

need_new : (old new : Core) (worked : Job) (seen : List Dep) (path : List ℕ) (effects : List Effect) → Lacks old worked seen path new effects → AllByRecursion (IsOfNew new) (jobs_of effects)
need_new old new worked seen path effects c = ⊎_elim
    (λ r. by_known _ (StartsAgain old r.waiting.job new effects) (Awaits old r.waiting.job path new effects) (AllByRecursion (IsOfNew new) (jobs_of effects)) r.so
    (λ a.
    let same : length old.journal ≡ length new.journal = sym (ap (λ (core : Core). length core.journal) a.new_is) in
    again_new new old.pending r.waiting r.waiting.job.message old.jobs old.headers (jobs_of effects)
    (ap (λ (core : Core). core.pending) a.new_is ∙ ap (λ (n : ℕ). begun_again r.waiting.job.message old.jobs n old.headers old.pending) same)
    r.waits refl
    (ap jobs_of a.effects_are ∙ ap (λ (n : ℕ). again old.jobs n old.headers r.waiting.job ∷ []) same))
    (λ e a. none_new new (jobs_of effects) (ap jobs_of a.effects_are)))
    (λ q. none_new new (jobs_of effects) (ap jobs_of q.none)) c

load_new : (old new : Core) (message : ℕ) (path : List ℕ) (read : Read) (effects : List Effect) → Loads old message path read new effects ⊎ IsLost old message new effects → AllByRecursion (IsOfNew new) (jobs_of effects)
load_new old new message path read effects c = ⊎_elim
    (λ r.
    let long = length-append old.journal (entry.Load old.loads ∷ []) in
    let same : length old.journal + 1 ≡ length new.journal = sym (ap (λ (core : Core). length core.journal) r.new_is ∙ long ∙ omega arith) in
    again_new new old.pending r.waiting message old.jobs new.headers (jobs_of effects)
    (ap (λ (core : Core). core.pending) r.new_is ∙ ap (λ (n : ℕ). begun_again message old.jobs n new.headers old.pending) same)
    r.waits r.works_for
    (ap jobs_of r.effects_are ∙ ap (λ (n : ℕ). again old.jobs n new.headers r.waiting.job ∷ []) same))
    (λ q. none_new new (jobs_of effects) (ap jobs_of q.none)) c

new_on : (old new : Core) (e : Event) (effects : List Effect) → StepsOn old e new effects → AllByRecursion (IsOfNew new) (jobs_of effects)
new_on old new (event.Message p) effects takes = message_new old new (class_of p) effects takes
new_on old new (event.Loaded path read) effects c = load_new old new (awaited_message old) path read effects c
new_on old new (event.Done done) effects c = none_new new (jobs_of effects) (no_jobs old new done.job done.seen _ _ _ effects c)
new_on old new (event.Need need) effects c = need_new old new need.job need.seen need.path effects c
new_on old new (event.NoMemory job) effects c = none_new new (jobs_of effects) (no_jobs old new job [] _ _ _ effects c)
new_on old new (event.End e) effects stops = none_new new (jobs_of effects) (no_jobs_at_end old new e effects stops)

by_taking : (b : Bool) (S D C : Type 0) → MatchBool b S D → (S → C) → (D → C) → C
by_taking true S D C m f g = f m
by_taking false S D C m f g = g m

put_new : (given : Given) (old new : Core) (put : Put) → TakesPut given old put new → AllByRecursion (IsOfNew new) (jobs_of put.effects)
put_new given old new put takes =
    by_taking put.taken (Steps old put.event new put.effects) ((new ≡ old) × (put.effects ≡ [])) (AllByRecursion (IsOfNew new) (jobs_of put.effects)) takes.steps
    (λ steps. by_hearing (hears old put.event) (StepsOn old put.event new put.effects) ((new ≡ old) × (put.effects ≡ [])) (AllByRecursion (IsOfNew new) (jobs_of put.effects)) steps
    (λ heard on. new_on old new put.event put.effects on) (λ q. none_new new (jobs_of put.effects) (ap jobs_of q.1)))
    (λ q. none_new new (jobs_of put.effects) (ap jobs_of q.1))

pub all_started : (given : Given) (puts : List Put) (fresh core : Core) → StandsFor given fresh → journal_of fresh ≡ [] → Runs given fresh puts core → AllStarted given puts
all_started given [] fresh core stands none run = tt
all_started given (put ∷ past) fresh core stands none (before, runs, takes) =
    let goes = goes_run given (put ∷ past) fresh core (starts given fresh stands none) (before, runs, takes) in (
      subst (λ (j : List Entry). AllByRecursion (IsStarted given j) (jobs_of put.effects)) (sym takes.told)
          (each_started given core (jobs_of put.effects) goes.0 (put_new given before core put takes)),
      all_started given past fresh before stands none runs,
    )

-- ---- the numbers of the jobs

-- a step's jobs are numbered from where the core stands on
record Numbers (old new : Core) (jobs : List Job) : Type 0 where
  pub from : AreNumberedFrom old.jobs jobs
  pub count : new.jobs ≡ old.jobs + length jobs

none_numbered : (old new : Core) (jobs : List Job) → new.jobs ≡ old.jobs → jobs ≡ [] → Numbers old new jobs
none_numbered old new jobs same none = record {
  from = subst (AreNumberedFrom old.jobs) (sym none) tt;
  count = same ∙ omega arith ∙ ap (λ (js : List Job). old.jobs + length js) (sym none);
}

one_numbered : (old new : Core) (job : Job) (jobs : List Job) → new.jobs ≡ old.jobs + 1 → job.number ≡ old.jobs → jobs ≡ job ∷ [] → Numbers old new jobs
one_numbered old new job jobs more number one = record {
  from = subst (AreNumberedFrom old.jobs) (sym one) (number, tt);
  count = more ∙ ap (λ (js : List Job). old.jobs + length js) (sym one);
}

number_for : (core : Core) (i : Id) (query : Query) (path : List ℕ) (o : Option Doc) → AreNumberedFrom core.jobs (map job_of (waiting_for core i query path o))
number_for core i query path None = tt
number_for core i query path (Some doc) = (refl, tt)

number_query : (core : Core) (o : Option ℤ) (i : Id) (query : Query) (path : List ℕ) → AreNumberedFrom core.jobs (map job_of (started_if core o (queries i query path)))
number_query core (Some code) i query path = tt
number_query core None i query path = number_for core i query path (doc_at core.docs path)

number_none : (core : Core) (o : Option ℤ) (k : Class) → started_if core None k ≡ [] → AreNumberedFrom core.jobs (map job_of (started_if core o k))
number_none core (Some code) k none = tt
number_none core None k none = subst (λ (ws : List Waiting). AreNumberedFrom core.jobs (map job_of ws)) (sym none) tt

number_by : (core : Core) (k : Class) → AreNumberedFrom core.jobs (map job_of (started_by core k))
number_by core (queries i query path) = number_query core (core_refusal core (queries i query path)) i query path
number_by core k = number_none core (core_refusal core k) k refl

numbers_on : (old new : Core) (e : Event) (effects : List Effect) → StepsOn old e new effects → Numbers old new (jobs_of effects)
numbers_on old new (event.Message p) effects takes =
    let jobs = jobs_by old new (class_of p) effects takes in
    record {
      from = subst (AreNumberedFrom old.jobs) (sym jobs) (number_by old (class_of p));
      count = takes.jobs ∙ ap (λ (n : ℕ). old.jobs + n) (sym (length-map (started_by old (class_of p)) job_of)) ∙ ap (λ (js : List Job). old.jobs + length js) (sym jobs);
    }
numbers_on old new (event.Loaded path read) effects c = ⊎_elim
    (λ r. one_numbered old new _ (jobs_of effects) (ap (λ (core : Core). core.jobs) r.new_is) refl (ap jobs_of r.effects_are))
    (λ q. none_numbered old new (jobs_of effects) (ap (λ (core : Core). core.jobs) q.same) (ap jobs_of q.none)) c
numbers_on old new (event.Done done) effects c = ⊎_elim
    (λ r. none_numbered old new (jobs_of effects) (ap (λ (core : Core). core.jobs) r.new_is) (no_jobs old new done.job done.seen _ _ _ effects c))
    (λ q. none_numbered old new (jobs_of effects) (ap (λ (core : Core). core.jobs) q.same) (ap jobs_of q.none)) c
numbers_on old new (event.Need need) effects c = ⊎_elim
    (λ r. by_known _ (StartsAgain old r.waiting.job new effects) (Awaits old r.waiting.job need.path new effects) (Numbers old new (jobs_of effects)) r.so
    (λ a. one_numbered old new _ (jobs_of effects) (ap (λ (core : Core). core.jobs) a.new_is) refl (ap jobs_of a.effects_are))
    (λ e a. none_numbered old new (jobs_of effects) (ap (λ (core : Core). core.jobs) a.new_is) (ap jobs_of a.effects_are)))
    (λ q. none_numbered old new (jobs_of effects) (ap (λ (core : Core). core.jobs) q.same) (ap jobs_of q.none)) c
numbers_on old new (event.NoMemory job) effects c = ⊎_elim
    (λ r. none_numbered old new (jobs_of effects) (ap (λ (core : Core). core.jobs) r.new_is) (no_jobs old new job [] _ _ _ effects c))
    (λ q. none_numbered old new (jobs_of effects) (ap (λ (core : Core). core.jobs) q.same) (ap jobs_of q.none)) c
numbers_on old new (event.End e) effects stops = none_numbered old new (jobs_of effects) (ap (λ (core : Core). core.jobs) stops.same) (no_jobs_at_end old new e effects stops)

put_numbers : (given : Given) (old new : Core) (put : Put) → TakesPut given old put new → Numbers old new (jobs_of put.effects)
put_numbers given old new put takes =
    by_taking put.taken (Steps old put.event new put.effects) ((new ≡ old) × (put.effects ≡ [])) (Numbers old new (jobs_of put.effects)) takes.steps
    (λ steps. by_hearing (hears old put.event) (StepsOn old put.event new put.effects) ((new ≡ old) × (put.effects ≡ [])) (Numbers old new (jobs_of put.effects)) steps
    (λ heard on. numbers_on old new put.event put.effects on)
    (λ q. none_numbered old new (jobs_of put.effects) (ap (λ (core : Core). core.jobs) q.0) (ap jobs_of q.1)))
    (λ q. none_numbered old new (jobs_of put.effects) (ap (λ (core : Core). core.jobs) q.0) (ap jobs_of q.1))

numbered_on_from : (n : ℕ) (xs ys : List Job) → AreNumberedFrom n xs → AreNumberedFrom (n + length xs) ys → AreNumberedFrom n (xs ++ ys)
numbered_on_from n [] ys h k = subst (λ (m : ℕ). AreNumberedFrom m ys) (omega arith) k
numbered_on_from n (x ∷ xs) ys h k =
    let same : n + length (x ∷ xs) ≡ n + 1 + length xs = omega arith in
    (h.0, numbered_on_from (n + 1) xs ys h.1 (subst (λ (m : ℕ). AreNumberedFrom m ys) same k))

numbered_run : (given : Given) (puts : List Put) (fresh core : Core) → fresh.jobs ≡ 0 → Runs given fresh puts core → AreNumberedFrom 0 (jobs_so_far puts) × (core.jobs ≡ length (jobs_so_far puts))
numbered_run given [] fresh core none run = (tt, ap (λ (c : Core). c.jobs) run ∙ none)
numbered_run given (put ∷ past) fresh core none (before, runs, takes) =
    let so_far = numbered_run given past fresh before none runs in
    let n = put_numbers given before core put takes in
    let e : before.jobs ≡ length (jobs_so_far past) = so_far.1 in (
      numbered_on_from 0 (jobs_so_far past) (jobs_of put.effects) so_far.0 (subst (λ (m : ℕ). AreNumberedFrom m (jobs_of put.effects)) (e ∙ omega arith) n.from),
      n.count ∙ ap (λ (m : ℕ). m + length (jobs_of put.effects)) e ∙ sym (length-append (jobs_so_far past) (jobs_of put.effects)),
    )

pub all_numbered : (given : Given) (puts : List Put) (fresh core : Core) → fresh.jobs ≡ 0 → Runs given fresh puts core → AreNumberedFrom 0 (jobs_so_far puts)
all_numbered given puts fresh core none runs = (numbered_run given puts fresh core none runs).0

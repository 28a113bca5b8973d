-- Which jobs of a run are out.
use Rattle.std.proofs.Common.{◌≡◌, ◌⊎◌, inl, inr, ⊎_elim, ℕ, ◌<◌, ◌≤◌, ◌+◌, List, [], ◌∷◌, ◌++◌, map, filter, length, Bool, true, false, not, refl, sym, ap, ◌∙◌, subst, arith, cond, nat_eq, eq-eqb, eqb-true, MatchBool}
use Rattle.std.proofs.lemmas.Bool.{false≢true, eqb-false}
use Rattle.std.proofs.lemmas.List.Elements.{All-contains_itself, recursion_from_All}
use Rattle.std.specs.Prelude.{Option, Some, None, Contains, option_map, reverse, unwrap_or, ◌&&◌, if◌then◌else◌}
use Rattle.std.specs.List.{AllByRecursion}
use Rattle.cl_base.specs.declared.headers.Read.{Read}
use Rattle.cl_headers.specs.Headers.{Headers}
use Rattle.cl_query.specs.declared.job.Job.{Job}
use Rattle.cl_headers.specs.declared.dep.Dep.{Dep}
use Rattle.cl_query.specs.Over.{IsOver}
use Rattle.cl_rpc.specs.declared.out.How.{How}
use Rattle.cl_rpc.specs.declared.out.Out.{Out}
use Rattle.cl_rpc.specs.Classes.{Class, class_of}
use Rattle.cl_history.specs.declared.entry.Entry.{Entry}
use Rattle.cl_history.specs.Given.{Given}
use Rattle.cl_history.specs.History.{pending}
use Rattle.cl_core.specs.declared.core_state.Core.{Core}
use Rattle.cl_core.specs.declared.core_state.Awaited.{Awaited}
use Rattle.cl_core.specs.declared.event.Event.{Event}
use Rattle.cl_core.specs.declared.event.Event.TheVariants as event
use Rattle.cl_core.specs.declared.waiting.Waiting.{Waiting}
use Rattle.cl_core.specs.Waiting.{number_of}
use Rattle.cl_core.specs.Deciding.{left_by, started_by}
use Rattle.cl_core.specs.Steps.{Takes, Completes, StartsAgain, Awaits, Lacks, Loads, IsLost, Steps, StepsOn, again, with_again, left_after, hears, is_awaited, awaited_message}
use Rattle.cl_core.specs.Standing.{IsIdle, StandsFor, awaits_read, jobs_of, loads_of, journal_of}
use Rattle.cl_core.specs.Runs.{Put, Runs}
use Rattle.cl_core.specs.Jobs.{IsOut, IsEndOf, HasOneOut, LedToRead, EachHasOneOut}
use Rattle.cl_core.proofs.Asking.{all_left}
use Rattle.cl_core.proofs.Waits.{one_of}
use Rattle.cl_core.proofs.Numbers.{the_one}
use Rattle.cl_core.proofs.Turning.{job_of, jobs_by, few_started}
use Rattle.cl_core.proofs.Started.{no_jobs, no_jobs_at_end}
use Rattle.cl_core.proofs.JobStands.{by_known}
use Rattle.cl_core.proofs.Kept.{none_awaited}
use Rattle.cl_core.proofs.Running.{starts, goes_run}

-- a job is out, and no other of its message; or none of a message is
abbrev IsOnly : List Put → Job → Type 0
IsOnly puts job = IsOut puts job × ((other : Job) → other.message ≡ job.message → IsOut puts other → other ≡ job)

abbrev NoneOut : List Put → ℕ → Type 0
NoneOut puts message = (other : Job) → other.message ≡ message → IsOut puts other → ⊥

-- so it is with a request that waits, by whether it awaits a read
abbrev Works : List Put → ℕ → Option Awaited → Waiting → Type 0
Works puts n o w = MatchBool (awaits_read o w) (NoneOut puts w.job.message) (IsOnly puts w.job) × (w.job.message < n)

record Holds (puts : List Put) (core : Core) : Type 0 where
  pub below : (job : Job) → IsOut puts job → job.message < core.messages
  pub each : AllByRecursion (Works puts core.messages core.awaited) core.pending
  pub led : (a : Awaited) → core.awaited ≡ Some a → LedToRead puts a.message

-- an event doesn't end a job
abbrev Spares : Put → Job → Type 0
Spares put job = put.taken ≡ true → put.heard ≡ true → IsEndOf put.event job → ⊥

-- ---- lists

joined : (P : Waiting → Type 0) (us ws : List Waiting) → AllByRecursion P us → AllByRecursion P ws → AllByRecursion P (us ++ ws)
joined P [] ws all more = more
joined P (u ∷ us) ws all more = (all.0, joined P us ws all.1 more)

weaker : (P Q : Waiting → Type 0) (ws : List Waiting) → ((w : Waiting) → P w → Q w) → AllByRecursion P ws → AllByRecursion Q ws
weaker P Q [] f all = tt
weaker P Q (w ∷ ws) f all = (f w all.0, weaker P Q ws f all.1)

passing_by : (b : Bool) (P : Waiting → Type 0) (p : Waiting → Bool) (w : Waiting) (ws : List Waiting) → p w ≡ b → P w → AllByRecursion (λ v. P v × (p v ≡ true)) ws → AllByRecursion (λ v. P v × (p v ≡ true)) (cond b (w ∷ ws) ws)
passing_by true P p w ws e here more = ((here, e), more)
passing_by false P p w ws e here more = more

passing : (P : Waiting → Type 0) (p : Waiting → Bool) (ws : List Waiting) → AllByRecursion P ws → AllByRecursion (λ v. P v × (p v ≡ true)) (filter p ws)
passing P p [] all = tt
passing P p (w ∷ ws) all = passing_by (p w) P p w (filter p ws) refl all.0 (passing P p ws all.1)

mapped : (P Q : Waiting → Type 0) (f : Waiting → Waiting) (ws : List Waiting) → ((w : Waiting) → P w → Q (f w)) → AllByRecursion P ws → AllByRecursion Q (map f ws)
mapped P Q f [] g all = tt
mapped P Q f (w ∷ ws) g all = (g w all.0, mapped P Q f ws g all.1)

none_in : (jobs : List Job) (job : Job) → jobs ≡ [] → Contains jobs job → ⊥
none_in jobs job none among = let h : Contains [] job = subst (λ (js : List Job). Contains js job) none among in absurd (omega (arith, h.1))

the_one_in : (jobs : List Job) (one job : Job) → jobs ≡ one ∷ [] → Contains jobs job → job ≡ one
the_one_in jobs one job is among = one_of (λ (j : Job). j ≡ one) jobs job (subst (AllByRecursion (λ (j : Job). j ≡ one)) (sym is) (refl, tt)) among

here_in : (jobs : List Job) (one : Job) → jobs ≡ one ∷ [] → Contains jobs one
here_in jobs one is = subst (λ (js : List Job). Contains js one) (sym is) (0, omega arith, refl)

-- ---- what goes on

kept_only : (put : Put) (past : List Put) (job : Job) → IsOnly past job → Spares put job → ((other : Job) → other.message ≡ job.message → Contains (jobs_of put.effects) other → ⊥) → IsOnly (put ∷ past) job
kept_only put past job only spares fresh =
    (inr (only.0, spares), λ other same out. ⊎_elim (λ h. absurd (fresh other same h)) (λ q. only.1 other same q.0) out)

kept_none : (put : Put) (past : List Put) (m : ℕ) → NoneOut past m → ((other : Job) → other.message ≡ m → Contains (jobs_of put.effects) other → ⊥) → NoneOut (put ∷ past) m
kept_none put past m none fresh other same out = ⊎_elim (λ h. fresh other same h) (λ q. none other same q.0) out

below_kept : (put : Put) (past : List Put) (old new : Core) → Holds past old → old.messages ≤ new.messages → ((job : Job) → Contains (jobs_of put.effects) job → job.message < new.messages)
    → (job : Job) → IsOut (put ∷ past) job → job.message < new.messages
below_kept put past old new holds le started job out = ⊎_elim (λ h. started job h) (λ q. let lt : job.message < old.messages = holds.below job q.0 in omega arith) out

-- ---- an event without effect

works_on : (b : Bool) (put : Put) (past : List Put) (w : Waiting) → jobs_of put.effects ≡ [] → Spares put w.job → MatchBool b (NoneOut past w.job.message) (IsOnly past w.job) → MatchBool b (NoneOut (put ∷ past) w.job.message) (IsOnly (put ∷ past) w.job)
works_on true put past w none spares m = kept_none put past w.job.message m (λ other same h. none_in (jobs_of put.effects) other none h)
works_on false put past w none spares m = kept_only put past w.job m spares (λ other same h. none_in (jobs_of put.effects) other none h)

quiet_holds : (put : Put) (past : List Put) (old new : Core) → new ≡ old → put.effects ≡ [] → ((w : Waiting) → Contains old.pending w → Spares put w.job) → Holds past old → Holds (put ∷ past) new
quiet_holds put past old new same none spares holds = subst (Holds (put ∷ past)) (sym same) (record {
  below = below_kept put past old old holds (omega arith) (λ job h. absurd (none_in (jobs_of put.effects) job (ap jobs_of none) h));
  each = weaker (λ w. Works past old.messages old.awaited w × Contains old.pending w) (Works (put ∷ past) old.messages old.awaited) old.pending
      (λ w q. (works_on (awaits_read old.awaited w) put past w (ap jobs_of none) (spares w q.1) q.0.0, q.0.1))
      (both old.pending holds.each (recursion_from_All (Contains old.pending) old.pending (All-contains_itself old.pending)));
  led = λ a is. inr (none, holds.led a is);
})
  where
    both : (ws : List Waiting) → AllByRecursion (Works past old.messages old.awaited) ws → AllByRecursion (Contains old.pending) ws → AllByRecursion (λ w. Works past old.messages old.awaited w × Contains old.pending w) ws
    both [] all more = tt
    both (w ∷ ws) all more = ((all.0, more.0), both ws all.1 more.1)

-- ---- while no read is awaited

abbrev Free : List Put → ℕ → Waiting → Type 0
Free puts n w = IsOnly puts w.job × (w.job.message < n)

free_each : (past : List Put) (old : Core) → old.awaited ≡ None → Holds past old → AllByRecursion (Free past old.messages) old.pending
free_each past old none holds = subst (λ (o : Option Awaited). AllByRecursion (Works past old.messages o) old.pending) none holds.each

holds_free : (puts : List Put) (new : Core) (n : ℕ) (ws : List Waiting) → new.awaited ≡ None → new.messages ≡ n → new.pending ≡ ws
    → ((job : Job) → IsOut puts job → job.message < n) → AllByRecursion (Free puts n) ws → Holds puts new
holds_free puts new n ws none count is below each = record {
  below = λ job out. subst (λ (m : ℕ). job.message < m) (sym count) (below job out);
  each = subst (λ (o : Option Awaited). AllByRecursion (Works puts new.messages o) new.pending) (sym none)
      (subst (λ (m : ℕ). AllByRecursion (Free puts m) new.pending) (sym count) (subst (AllByRecursion (Free puts n)) (sym is) each));
  led = λ a some. absurd (let bad : ◌≡◌ {A = Option Awaited} None (Some a) = sym none ∙ some in cc);
}

-- ---- a message

message_holds : (put : Put) (past : List Put) (old new : Core) (k : Class) → Holds past old → old.awaited ≡ None → Takes old k new put.effects → ((job : Job) → Spares put job) → Holds (put ∷ past) new
message_holds put past old new k holds none takes spares =
    let n : ℕ = old.messages in
    let jobs = jobs_by old new k put.effects takes in
    let free = free_each past old none holds in
    let Here : Type 0 = ((job : Job) → Contains (jobs_of put.effects) job → job.message ≡ n) × AllByRecursion (Free (put ∷ past) (n + 1)) (started_by old k) in
    let here : Here = ⊎_elim
    (λ nil. (λ job h. absurd (none_in (jobs_of put.effects) job (jobs ∙ ap (map job_of) nil) h), subst (AllByRecursion (Free (put ∷ past) (n + 1))) (sym nil) tt))
    (λ one.
    let w = one.0 in
    let is : jobs_of put.effects ≡ w.job ∷ [] = jobs ∙ ap (map job_of) one.1 in
    let number : w.job.message ≡ n = one.2 in
    let only : IsOnly (put ∷ past) w.job =
    (inl (here_in (jobs_of put.effects) w.job is), λ other same out. ⊎_elim (λ h. the_one_in (jobs_of put.effects) w.job other is h) (λ q. let lt : other.message < n = holds.below other q.0 in absurd (omega (arith, same, number))) out) in
    (λ job h. ap (λ (j : Job). j.message) (the_one_in (jobs_of put.effects) w.job job is h) ∙ number, subst (AllByRecursion (Free (put ∷ past) (n + 1))) (sym one.1) ((only, omega (arith, number)), tt)))
    (few_started old k) in
    holds_free (put ∷ past) new (n + 1) _ takes.awaited takes.messages takes.pending
    (λ job out. ⊎_elim (λ h. let e : job.message ≡ n = here.0 job h in omega arith) (λ q. let lt : job.message < n = holds.below job q.0 in omega arith) out)
    (joined (Free (put ∷ past) (n + 1)) (left_by old k) (started_by old k)
    (weaker (Free past n) (Free (put ∷ past) (n + 1)) (left_by old k)
    (λ w q. let lt : w.job.message < n = q.1 in (kept_only put past w.job q.0 (spares w.job) (λ other same h. let e : other.message ≡ n = here.0 other h in absurd (omega (arith, same))), omega arith))
    (all_left (Free past n) old k free))
    here.1)

-- ---- the end of a job

other_number : (m n : ℕ) → not (nat_eq n m) ≡ true → m ≡ n → ⊥
other_number m n off same = absurd (false≢true (sym (ap not (eq-eqb n m (sym same))) ∙ off))

-- work on a job is work on jobs of its message alone
of_message : (worked : Job) (seen : List Dep) (one other : Job) → IsOver worked seen one → IsOver worked seen other → one.message ≡ other.message
of_message worked seen one other a b = sym (ap (λ (j : Job). j.message) a.same) ∙ ap (λ (j : Job). j.message) b.same

end_holds : (put : Put) (past : List Put) (old new : Core) (worked : Job) (seen : List Dep) (mark : ℕ) (h : How) (o : Out) → Holds past old → old.awaited ≡ None → Completes old worked seen mark h o new put.effects
    → ((other : Job) → IsEndOf put.event other → IsOver worked seen other) → Holds (put ∷ past) new
end_holds put past old new worked seen mark h o holds none c ends =
    let quiet = no_jobs old new worked seen mark h o put.effects c in
    ⊎_elim
    (λ r.
    let job = r.waiting.job in
    holds_free (put ∷ past) new old.messages (left_after old job.message) (ap (λ (core : Core). core.awaited) r.new_is ∙ none)
    (ap (λ (core : Core). core.messages) r.new_is) (ap (λ (core : Core). core.pending) r.new_is)
    (λ other out. ⊎_elim (λ g. absurd (none_in (jobs_of put.effects) other quiet g)) (λ q. holds.below other q.0) out)
    (weaker (λ w. Free past old.messages w × (not (nat_eq w.job.message job.message) ≡ true)) (Free (put ∷ past) old.messages) (left_after old job.message)
    (λ w q. (kept_only put past w.job q.0.0 (λ taken heard e. other_number job.message w.job.message q.1 (of_message worked seen job w.job r.over (ends w.job e))) (λ other same g. none_in (jobs_of put.effects) other quiet g), q.0.1))
    (passing (Free past old.messages) (λ w. not (nat_eq w.job.message job.message)) old.pending (free_each past old none holds))))
    (λ q. quiet_holds put past old new q.same q.none (λ w among taken heard e. q.not_out w among (ends w.job e)) holds)
    c

-- ---- a job that begins again

again_by : (b : Bool) (put : Put) (past : List Put) (n m number mark : ℕ) (headers : Headers) (job : Job) (w : Waiting) → nat_eq w.job.message m ≡ b
    → jobs_of put.effects ≡ again number mark headers job ∷ [] → job.message ≡ m → (nat_eq w.job.message m ≡ true → (w.job ≡ job) × ((other : Job) → other.message ≡ m → IsOut past other → Spares put other → ⊥))
    → (nat_eq w.job.message m ≡ false → IsOnly past w.job × Spares put w.job) → w.job.message < n
    → Free (put ∷ past) n (if b then record w { job = again number mark headers w.job } else w)
again_by true put past n m number mark headers job w is started number_is its others lt =
    let mine = its is in
    let one : jobs_of put.effects ≡ again number mark headers w.job ∷ [] = started ∙ ap (λ (j : Job). again number mark headers j ∷ []) (sym mine.0) in (
      (
        inl (here_in (jobs_of put.effects) (again number mark headers w.job) one),
        λ other same out. ⊎_elim (λ h. the_one_in (jobs_of put.effects) (again number mark headers w.job) other one h)
            (λ q. absurd (mine.1 other (same ∙ ap (λ (j : Job). j.message) mine.0 ∙ number_is) q.0 q.1)) out,
      ),
      lt,
    )
again_by false put past n m number mark headers job w is started number_is its others lt =
    let rest = others is in (
      kept_only put past w.job rest.0 rest.1 (λ other same h.
          let e : other.message ≡ m = ap (λ (j : Job). j.message) (the_one_in (jobs_of put.effects) (again number mark headers job) other started h) ∙ number_is in
          absurd (eqb-false w.job.message m is (sym same ∙ e))),
      lt,
    )

-- ---- a need

need_holds : (put : Put) (past : List Put) (old new : Core) (worked : Job) (seen : List Dep) (path : List ℕ) → Holds past old → old.awaited ≡ None → put.taken ≡ true → put.heard ≡ true
    → Lacks old worked seen path new put.effects → ((other : Job) → IsEndOf put.event other → IsOver worked seen other) → ((other : Job) → IsOver worked seen other → IsEndOf put.event other) → Holds (put ∷ past) new
need_holds put past old new worked seen path holds none taken heard c ends is_end = ⊎_elim
    (λ r.
    let job = r.waiting.job in
    let ended : IsEndOf put.event job = is_end job r.over in
    let free = free_each past old none holds in
    let its : Free past old.messages r.waiting = one_of (Free past old.messages) old.pending r.waiting free r.waits in
    let only : IsOnly past job = its.0 in
    let mine : (w : Waiting) → Free past old.messages w → nat_eq w.job.message job.message ≡ true → w.job ≡ job =
    λ w f e. only.1 w.job (eqb-true w.job.message job.message e) f.0.0 in
    let gone : (other : Job) → other.message ≡ job.message → IsOut past other → Spares put other → ⊥ =
    λ other same out spares. spares taken heard (subst (IsEndOf put.event) (sym (only.1 other same out)) ended) in
    let apart : (w : Waiting) → nat_eq w.job.message job.message ≡ false → Spares put w.job =
    λ w is t h e. eqb-false w.job.message job.message is (sym (of_message worked seen job w.job r.over (ends w.job e))) in
    by_known _ (StartsAgain old job new put.effects) (Awaits old job path new put.effects) (Holds (put ∷ past) new) r.so
    (λ a.
    let started : jobs_of put.effects ≡ again old.jobs (length old.journal) old.headers job ∷ [] = ap jobs_of a.effects_are in
    holds_free (put ∷ past) new old.messages _ (ap (λ (core : Core). core.awaited) a.new_is ∙ none) (ap (λ (core : Core). core.messages) a.new_is) (ap (λ (core : Core). core.pending) a.new_is)
    (λ other out. ⊎_elim
    (λ h. subst (λ (k : ℕ). k < old.messages) (sym (ap (λ (j : Job). j.message) (the_one_in (jobs_of put.effects) _ other started h))) (holds.below job only.0))
    (λ q. holds.below other q.0) out)
    (mapped (Free past old.messages) (Free (put ∷ past) old.messages) (with_again job.message old.jobs (length old.journal) old.headers) old.pending
    (λ w f. again_by (nat_eq w.job.message job.message) put past old.messages job.message old.jobs (length old.journal) old.headers job w refl started refl
    (λ e. (mine w f e, gone)) (λ e. (f.0, apart w e)) f.1)
    free))
    (λ unknown a.
    let quiet : jobs_of put.effects ≡ [] = ap jobs_of a.effects_are in
    subst (Holds (put ∷ past)) (sym a.new_is) (record {
      below = λ other out. ⊎_elim (λ h. absurd (none_in (jobs_of put.effects) other quiet h)) (λ q. holds.below other q.0) out;
      each = weaker (Free past old.messages) (Works (put ∷ past) old.messages (Some (record { message = job.message; path = path }))) old.pending
          (λ w f. (
            await_by (nat_eq w.job.message job.message) put past w job refl quiet
                (λ e other same out spares. gone other (same ∙ eqb-true w.job.message job.message e) out spares) (λ e. kept_only put past w.job f.0 (apart w e) (λ other same h. none_in (jobs_of put.effects) other quiet h)),
            f.1,
          ))
          free;
      led = λ b some. inl (
        (λ e. let bad : path ∷ [] ≡ [] = sym (ap loads_of a.effects_are) ∙ e in cc),
        (job, ended, message_of b (record { message = job.message; path = path }) some),
      );
    })))
    (λ q. quiet_holds put past old new q.same q.none (λ w among t h e. q.not_out w among (ends w.job e)) holds)
    c
  where
    message_of : (b x : Awaited) → ◌≡◌ {A = Option Awaited} (Some x) (Some b) → x.message ≡ b.message
    message_of b x e = ap (λ (o : Option Awaited). elim o [ None ↦ x.message | Some y ↦ y.message ]) e

    await_by : (b : Bool) (put : Put) (past : List Put) (w : Waiting) (job : Job) → nat_eq w.job.message job.message ≡ b → jobs_of put.effects ≡ []
        → (nat_eq w.job.message job.message ≡ true → (other : Job) → other.message ≡ w.job.message → IsOut past other → Spares put other → ⊥)
        → (nat_eq w.job.message job.message ≡ false → IsOnly (put ∷ past) w.job)
        → MatchBool b (NoneOut (put ∷ past) w.job.message) (IsOnly (put ∷ past) w.job)
    await_by true put past w job is quiet gone rest = λ other same out. ⊎_elim (λ h. none_in (jobs_of put.effects) other quiet h) (λ q. gone is other same q.0 q.1) out
    await_by false put past w job is quiet gone rest = rest is

-- ---- a read

load_by : (b : Bool) (past : List Put) (w : Waiting) (m : ℕ) → nat_eq w.job.message m ≡ b → MatchBool (nat_eq w.job.message m) (NoneOut past w.job.message) (IsOnly past w.job) → MatchBool b (NoneOut past w.job.message) (IsOnly past w.job)
load_by b past w m is s = subst (λ (c : Bool). MatchBool c (NoneOut past w.job.message) (IsOnly past w.job)) is s

load_holds : (put : Put) (past : List Put) (old new : Core) (a : Awaited) (path : List ℕ) (read : Read) → Holds past old → old.awaited ≡ Some a
    → Loads old a.message path read new put.effects ⊎ IsLost old a.message new put.effects → ((job : Job) → Spares put job) → Holds (put ∷ past) new
load_holds put past old new a path read holds is c spares = ⊎_elim
    (λ r.
    let m = a.message in
    let each : AllByRecursion (Works past old.messages (Some a)) old.pending = subst (λ (o : Option Awaited). AllByRecursion (Works past old.messages o) old.pending) is holds.each in
    let its : Works past old.messages (Some a) r.waiting = one_of (Works past old.messages (Some a)) old.pending r.waiting each r.waits in
    let started : jobs_of put.effects ≡ again old.jobs (length old.journal + 1) new.headers r.waiting.job ∷ [] = ap jobs_of r.effects_are in
    holds_free (put ∷ past) new old.messages _ (ap (λ (core : Core). core.awaited) r.new_is) (ap (λ (core : Core). core.messages) r.new_is) (ap (λ (core : Core). core.pending) r.new_is)
    (λ other out. ⊎_elim
    (λ h. subst (λ (k : ℕ). k < old.messages) (sym (ap (λ (j : Job). j.message) (the_one_in (jobs_of put.effects) _ other started h))) its.1)
    (λ q. holds.below other q.0) out)
    (mapped (λ w. Works past old.messages (Some a) w × Contains old.pending w) (Free (put ∷ past) old.messages) (with_again m old.jobs (length old.journal + 1) new.headers) old.pending
    (λ w f. again_by (nat_eq w.job.message m) put past old.messages m old.jobs (length old.journal + 1) new.headers r.waiting.job w refl started r.works_for
    (λ e. (
      the_one (λ v. v.job ≡ r.waiting.job) m r.waiting w old.pending r.alone refl f.1 (eqb-true w.job.message m e),
      λ other same out calm. load_by true past w m e f.0.0 other (same ∙ sym (eqb-true w.job.message m e)) out,
    ))
    (λ e. (load_by false past w m e f.0.0, spares w.job)) f.0.1)
    (both (Works past old.messages (Some a)) old.pending each (recursion_from_All (Contains old.pending) old.pending (All-contains_itself old.pending)))))
    (λ q. quiet_holds put past old new q.same q.none (λ w among. spares w.job) holds)
    c
  where
    both : (P : Waiting → Type 0) (ws : List Waiting) → AllByRecursion P ws → AllByRecursion (Contains old.pending) ws → AllByRecursion (λ w. P w × Contains old.pending w) ws
    both P [] all more = tt
    both P (w ∷ ws) all more = ((all.0, more.0), both P ws all.1 more.1)

-- ---- a step

some_by : (o : Option Awaited) (path : List ℕ) (read : Read) → is_awaited o (event.Loaded path read) ≡ true → (a : Awaited) × (o ≡ Some a)
some_by None path read heard = absurd (false≢true heard)
some_by (Some a) path read heard = (a, refl)

second : (a b : Bool) → (a && b) ≡ true → b ≡ true
second true b e = e
second false b e = absurd (false≢true e)

event_holds : (e : Event) (put : Put) (past : List Put) (old new : Core) → put.event ≡ e → hears old e ≡ true → put.taken ≡ true → put.heard ≡ true → Holds past old → StepsOn old e new put.effects → Holds (put ∷ past) new
event_holds (event.Message p) put past old new is hears taken heard holds takes =
    message_holds put past old new (class_of p) holds (none_awaited old (event.Message p) tt hears) takes (λ job t h e. subst (λ (some : Event). IsEndOf some job) is e)
event_holds (event.Loaded path read) put past old new is hears taken heard holds c =
    let one = some_by old.awaited path read (second (not old.finished) (is_awaited old.awaited (event.Loaded path read)) hears) in
    let number : awaited_message old ≡ one.0.message = ap (λ (o : Option Awaited). unwrap_or (option_map (λ (a : Awaited). a.message) o) 0) one.1 in
    load_holds put past old new one.0 path read holds one.1 (subst (λ (m : ℕ). Loads old m path read new put.effects ⊎ IsLost old m new put.effects) number c)
    (λ job t h e. subst (λ (some : Event). IsEndOf some job) is e)
event_holds (event.Done done) put past old new is hears taken heard holds c =
    end_holds put past old new done.job done.seen _ _ _ holds (none_awaited old (event.Done done) tt hears) c (λ other e. subst (λ (some : Event). IsEndOf some other) is e)
event_holds (event.Need need) put past old new is hears taken heard holds c =
    need_holds put past old new need.job need.seen need.path holds (none_awaited old (event.Need need) tt hears) taken heard c (λ other e. subst (λ (some : Event). IsEndOf some other) is e) (λ other e. subst (λ (some : Event). IsEndOf some other) (sym is) e)
event_holds (event.NoMemory job) put past old new is hears taken heard holds c =
    end_holds put past old new job [] _ _ _ holds (none_awaited old (event.NoMemory job) tt hears) c (λ other e. subst (λ (some : Event). IsEndOf some other) is e)
event_holds (event.End e) put past old new is hears taken heard holds stops =
    let none = none_awaited old (event.End e) tt hears in
    let quiet = no_jobs_at_end old new e put.effects stops in
    holds_free (put ∷ past) new old.messages old.pending (ap (λ (core : Core). core.awaited) stops.same ∙ none) (ap (λ (core : Core). core.messages) stops.same) (ap (λ (core : Core). core.pending) stops.same)
    (λ other out. ⊎_elim (λ h. absurd (none_in (jobs_of put.effects) other quiet h)) (λ q. holds.below other q.0) out)
    (weaker (Free past old.messages) (Free (put ∷ past) old.messages) old.pending
    (λ w f. (kept_only put past w.job f.0 (λ t h g. subst (λ (some : Event). IsEndOf some w.job) is g) (λ other same h. none_in (jobs_of put.effects) other quiet h), f.1))
    (free_each past old none holds))

heard_holds : (b : Bool) (put : Put) (past : List Put) (old new : Core) → hears old put.event ≡ b → put.heard ≡ b → put.taken ≡ true → Holds past old
    → MatchBool b (StepsOn old put.event new put.effects) ((new ≡ old) × (put.effects ≡ [])) → Holds (put ∷ past) new
heard_holds true put past old new is heard taken holds on = event_holds put.event put past old new refl is taken heard holds on
heard_holds false put past old new is heard taken holds q = quiet_holds put past old new q.0 q.1 (λ w among t h e. false≢true (sym heard ∙ h)) holds

put_holds : (b : Bool) (put : Put) (past : List Put) (old new : Core) → put.taken ≡ b → put.heard ≡ hears old put.event → Holds past old
    → MatchBool b (Steps old put.event new put.effects) ((new ≡ old) × (put.effects ≡ [])) → Holds (put ∷ past) new
put_holds true put past old new is heard holds steps = heard_holds (hears old put.event) put past old new refl heard is holds steps
put_holds false put past old new is heard holds q = quiet_holds put past old new q.0 q.1 (λ w among t h e. false≢true (sym is ∙ t)) holds

-- ---- a run

holds_fresh : (fresh : Core) → IsIdle fresh → Holds [] fresh
holds_fresh fresh idle = holds_free [] fresh fresh.messages [] idle.none_awaited refl idle.none_waits (λ job out. absurd out) tt

one_out : (b : Bool) (puts : List Put) (core : Core) (w : Waiting) → awaits_read core.awaited w ≡ b → Holds puts core → MatchBool b (NoneOut puts w.job.message) (IsOnly puts w.job) → HasOneOut puts w.job.message ⊎ LedToRead puts w.job.message
one_out true puts core w is holds none = inr (led core.awaited refl is)
  where
    led : (o : Option Awaited) → core.awaited ≡ o → awaits_read o w ≡ true → LedToRead puts w.job.message
    led None e h = absurd (false≢true h)
    led (Some a) e h = subst (LedToRead puts) (sym (eqb-true w.job.message a.message h)) (holds.led a e)
one_out false puts core w is holds only = inl (record { job = w.job; works_for = refl; is_out = only.0; alone = only.1 })

each_out : (given : Given) (put : Put) (past : List Put) (core : Core) → StandsFor given core → put.journal ≡ journal_of core → Holds (put ∷ past) core
    → (message : ℕ) → Contains (pending given (reverse put.journal)) message → HasOneOut (put ∷ past) message ⊎ LedToRead (put ∷ past) message
each_out given put past core stands told holds message among =
    let P : ℕ → Type 0 = λ m. HasOneOut (put ∷ past) m ⊎ LedToRead (put ∷ past) m in
    let numbers : List ℕ = map number_of core.pending in
    let same : pending given (reverse put.journal) ≡ numbers = ap (λ (j : List Entry). pending given (reverse j)) told ∙ sym stands.waiting in
    one_of P numbers message (every core.pending holds.each) (subst (λ (ns : List ℕ). Contains ns message) same among)
  where
    every : (ws : List Waiting) → AllByRecursion (Works (put ∷ past) core.messages core.awaited) ws → AllByRecursion (λ (m : ℕ). HasOneOut (put ∷ past) m ⊎ LedToRead (put ∷ past) m) (map number_of ws)
    every [] each = tt
    every (w ∷ ws) each = (one_out (awaits_read core.awaited w) (put ∷ past) core w refl holds each.0.0, every ws each.1)

out_run : (given : Given) (puts : List Put) (fresh core : Core) → StandsFor given fresh → journal_of fresh ≡ [] → IsIdle fresh → Runs given fresh puts core
    → Holds puts core × EachHasOneOut given puts
out_run given [] fresh core stands none idle run = (subst (Holds []) (sym run) (holds_fresh fresh idle), tt)
out_run given (put ∷ past) fresh core stands none idle (before, runs, takes) =
    let goes = goes_run given (put ∷ past) fresh core (starts given fresh stands none) (before, runs, takes) in
    let so_far = out_run given past fresh before stands none idle runs in
    let holds : Holds (put ∷ past) core = put_holds put.taken put past before core refl takes.hears_it so_far.0 takes.steps in
    (holds, (each_out given put past core goes.0 takes.told holds, so_far.1))

pub each_has_one_out : (given : Given) (puts : List Put) (fresh core : Core) → StandsFor given fresh → journal_of fresh ≡ [] → IsIdle fresh → Runs given fresh puts core
    → EachHasOneOut given puts
each_has_one_out given puts fresh core stands none idle runs = (out_run given puts fresh core stands none idle runs).1

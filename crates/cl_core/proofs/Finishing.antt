-- How a run ends.
use Rattle.std.proofs.Common.{◌≡◌, ◌⊎◌, ⊎_elim, ℕ, List, [], ◌∷◌, ◌++◌, map, Bool, true, false, refl, sym, ap, ◌∙◌, subst, append-nil, append_assoc, MatchBool}
use Rattle.std.proofs.lemmas.Bool.{false≢true}
use Rattle.std.specs.Prelude.{Option, Some, None, is_some, not, reverse, ◌&&◌, if◌then◌else◌}
use Rattle.cl_base.specs.declared.headers.Read.{Read}
use Rattle.cl_headers.specs.Headers.{Headers}
use Rattle.cl_query.specs.declared.job.Job.{Job}
use Rattle.cl_headers.specs.declared.dep.Dep.{Dep}
use Rattle.cl_rpc.specs.declared.out.How.{How}
use Rattle.cl_rpc.specs.declared.out.Out.{Out}
use Rattle.cl_rpc.specs.Classes.{Class, exits, class_of}
use Rattle.cl_history.specs.declared.entry.Entry.{Entry}
use Rattle.cl_history.specs.Given.{Given}
use Rattle.cl_history.specs.History.{is_shut_down, pending}
use Rattle.cl_core.specs.declared.core_state.Core.{Core}
use Rattle.cl_core.specs.declared.event.Event.{Event}
use Rattle.cl_core.specs.declared.event.Event.TheVariants as event
use Rattle.cl_core.specs.declared.event.Ending.{Ending}
use Rattle.cl_core.specs.declared.event.Ending.TheVariants as ending
use Rattle.cl_core.specs.declared.event.Effect.{Effect}
use Rattle.cl_core.specs.declared.event.Effect.TheVariants as effect
use Rattle.cl_core.specs.declared.waiting.Waiting.{Waiting}
use Rattle.cl_core.specs.Waiting.{number_of}
use Rattle.cl_core.specs.Deciding.{replies_of, started_by}
use Rattle.cl_history.specs.Refusals.{is_exit}
use Rattle.cl_core.specs.Steps.{Takes, Completes, StartsAgain, Awaits, Lacks, Loads, IsLost, Stops, Steps, StepsOn, begun_again, finish_if, first_ending, hears, status_of, ending_after, left_after, pending_after, is_accepted, start_jobs, awaited_message}
use Rattle.cl_pending.specs.Meant.{is_nil}
use Rattle.cl_core.specs.Standing.{IsIdle, StandsFor, finish_of, journal_of}
use Rattle.cl_core.specs.Runs.{Put, TakesPut, Runs}
use Rattle.cl_core.specs.Ends.{status_by, status_by_class, status_of_put, earlier_or, first_status, over, EndsAs, EndsOnce}
use Rattle.cl_core.proofs.JobStands.{by_known}
use Rattle.cl_core.proofs.Turning.{finish_after_replies, exit_keeps}
use Rattle.cl_core.proofs.Running.{starts, goes_run}

-- the status with which a core is over
abbrev pub over_of : Core → Option ℕ
over_of core = if is_nil core.pending then core.ending else None

-- what a core keeps of the events that were put to it
pub record Keeps (given : Given) (puts : List Put) (core : Core) : Type 0 where
  pub first : first_status given puts ≡ core.ending
  pub is_over : over given puts ≡ over_of core
  pub finished : core.finished ≡ is_some (over_of core)

-- what an event makes of it
record Moves (old new : Core) (status : Option ℕ) (effects : List Effect) : Type 0 where
  pub ending : new.ending ≡ earlier_or old.ending status
  pub finished : new.finished ≡ is_some (over_of new)
  pub ends : EndsAs (over_of old) (over_of new) effects

-- ---- statuses

or_none : (o : Option ℕ) → earlier_or o None ≡ o
or_none None = refl
or_none (Some status) = refl

some_over : (b : Bool) (o : Option ℕ) → (is_some o && b) ≡ is_some (if b then o else None)
some_over true None = refl
some_over true (Some s) = refl
some_over false None = refl
some_over false (Some s) = refl

none_if : (o : Option ℕ) → is_some o ≡ false → o ≡ None
none_if None e = refl
none_if (Some s) e = absurd (false≢true (sym e))

exit_gives : (shut_down before : Bool) (o : Option ℕ) → before ≡ shut_down → first_ending o (if before then 0 else 1) ≡ earlier_or o (Some (if shut_down then 0 else 1))
exit_gives shut_down before None e = ap (λ (b : Bool). Some (if b then 0 else 1)) e
exit_gives shut_down before (Some s) e = refl

class_gives : (shut_down before : Bool) (o : Option ℕ) (k : Class) → (is_exit k ≡ true → before ≡ shut_down)
    → (if is_exit k then first_ending o (if before then 0 else 1) else o) ≡ earlier_or o (status_by_class shut_down k)
class_gives shut_down before o exits same = exit_gives shut_down before o (same refl)
class_gives shut_down before o _ same = sym (or_none o)

end_gives : (shut_down : Bool) (o : Option ℕ) (e : Ending) → first_ending o (status_of e) ≡ earlier_or o (status_by shut_down (event.End e))
end_gives shut_down None ending.Edge = refl
end_gives shut_down None ending.Bad = refl
end_gives shut_down None ending.Failed = refl
end_gives shut_down None ending.Memory = refl
end_gives shut_down None ending.Long = refl
end_gives shut_down (Some s) ending.Edge = refl
end_gives shut_down (Some s) ending.Bad = refl
end_gives shut_down (Some s) ending.Failed = refl
end_gives shut_down (Some s) ending.Memory = refl
end_gives shut_down (Some s) ending.Long = refl

end_is_some : (b : Bool) (o : Option ℕ) (s : ℕ) → b ≡ is_some (if b then first_ending o s else None)
end_is_some true None s = refl
end_is_some true (Some t) s = refl
end_is_some false o s = refl

-- ---- effects

ends_none : (o : Option ℕ) → EndsAs o o []
ends_none None = refl
ends_none (Some s) = (refl, refl)

ends_with : (b : Bool) (o : Option ℕ) (front effects : List Effect) → finish_of front ≡ None → effects ≡ front ++ finish_if o b → EndsAs None (if b then o else None) effects
ends_with true None front effects none e = ap finish_of (e ∙ append-nil front) ∙ none
ends_with true (Some s) front effects none e = (front, none, e)
ends_with false None front effects none e = ap finish_of (e ∙ append-nil front) ∙ none
ends_with false (Some s) front effects none e = ap finish_of (e ∙ append-nil front) ∙ none

no_finish_of_jobs : (ws : List Waiting) → finish_of (start_jobs ws) ≡ None
no_finish_of_jobs [] = refl
no_finish_of_jobs (w ∷ ws) = no_finish_of_jobs ws

ends_from : (o p : Option ℕ) (effects : List Effect) → o ≡ None → EndsAs None p effects → EndsAs o p effects
ends_from o p effects none ends = subst (λ (q : Option ℕ). EndsAs q p effects) (sym none) ends

-- ---- a step

over_as : (new : Core) (ws : List Waiting) (o : Option ℕ) → new.pending ≡ ws → new.ending ≡ o → over_of new ≡ (if is_nil ws then o else None)
over_as new ws o e f = ap (λ (us : List Waiting). if is_nil us then new.ending else None) e ∙ ap (λ (p : Option ℕ). if is_nil ws then p else None) f

moves_as : (old new : Core) (status o : Option ℕ) (ws : List Waiting) (front effects : List Effect) → over_of old ≡ None
    → new.pending ≡ ws → new.ending ≡ o → o ≡ earlier_or old.ending status → new.finished ≡ is_some (if is_nil ws then o else None)
    → finish_of front ≡ None → effects ≡ front ++ finish_if o (is_nil ws) → Moves old new status effects
moves_as old new status o ws front effects goes_on left ends given finished none are =
    let is : over_of new ≡ (if is_nil ws then o else None) = over_as new ws o left ends in
    record {
      ending = ends ∙ given;
      finished = finished ∙ ap is_some (sym is);
      ends = ends_from (over_of old) (over_of new) effects goes_on (subst (λ (p : Option ℕ). EndsAs None p effects) (sym is) (ends_with (is_nil ws) o front effects none are));
    }

-- nothing moves, and nothing ends
moves_on_as : (old new : Core) (effects : List Effect) → over_of old ≡ None → over_of new ≡ over_of old → new.ending ≡ old.ending → new.finished ≡ old.finished → old.finished ≡ is_some (over_of old)
    → finish_of effects ≡ None → Moves old new None effects
moves_on_as old new effects goes_on is ends same finished none = record {
  ending = ends ∙ sym (or_none old.ending);
  finished = same ∙ finished ∙ ap is_some (sym is);
  ends = subst (λ (p : Option ℕ). EndsAs p (over_of new) effects) (sym goes_on) (subst (λ (p : Option ℕ). EndsAs None p effects) (sym (is ∙ goes_on)) none);
}

moves_not : (old new : Core) (effects : List Effect) → new ≡ old → old.finished ≡ is_some (over_of old) → effects ≡ [] → Moves old new None effects
moves_not old new effects same finished none = record {
  ending = ap (λ (core : Core). core.ending) same ∙ sym (or_none old.ending);
  finished = ap (λ (core : Core). core.finished) same ∙ finished ∙ ap (λ (core : Core). is_some (over_of core)) (sym same);
  ends = subst (EndsAs (over_of old) (over_of new)) (sym none) (subst (λ (core : Core). EndsAs (over_of old) (over_of core) []) (sym same) (ends_none (over_of old)));
}

message_moves : (old new : Core) (k : Class) (effects : List Effect) (shut_down : Bool) → over_of old ≡ None → shut_down ≡ new.shut_down → Takes old k new effects
    → Moves old new (status_by_class shut_down k) effects
message_moves old new k effects shut_down goes_on is_shut takes =
    let front : List Effect = map effect.Reply (replies_of old k) ++ start_jobs (started_by old k) in
    moves_as old new (status_by_class shut_down k) (ending_after old k) (pending_after old k) front effects goes_on takes.pending takes.ending
    (class_gives shut_down old.shut_down old.ending k (λ e. sym (is_shut ∙ takes.shut_down ∙ exit_keeps k (is_accepted old k) old.shut_down e)))
    (takes.finished ∙ some_over (is_nil (pending_after old k)) (ending_after old k))
    (finish_after_replies (replies_of old k) (start_jobs (started_by old k)) ∙ no_finish_of_jobs (started_by old k))
    (takes.effects_are ∙ sym (append_assoc (map effect.Reply (replies_of old k)) (start_jobs (started_by old k)) (finish_if (ending_after old k) (is_nil (pending_after old k)))))

job_moves : (old new : Core) (worked : Job) (seen : List Dep) (mark : ℕ) (h : How) (o : Out) (effects : List Effect) → over_of old ≡ None → old.finished ≡ is_some (over_of old) → Completes old worked seen mark h o new effects
    → Moves old new None effects
job_moves old new worked seen mark h o effects goes_on finished c = ⊎_elim
    (λ r. moves_as old new None old.ending (left_after old r.waiting.job.message) (effect.Reply _ ∷ []) effects goes_on
    (ap (λ (core : Core). core.pending) r.new_is) (ap (λ (core : Core). core.ending) r.new_is) (sym (or_none old.ending))
    (ap (λ (core : Core). core.finished) r.new_is ∙ some_over (is_nil (left_after old r.waiting.job.message)) old.ending) refl r.effects_are)
    (λ q. moves_not old new effects q.same finished q.none)
    c

nil_again : (m number mark : ℕ) (headers : Headers) (ws : List Waiting) → is_nil (begun_again m number mark headers ws) ≡ is_nil ws
nil_again m number mark headers [] = refl
nil_again m number mark headers (w ∷ ws) = refl

need_moves : (old new : Core) (worked : Job) (seen : List Dep) (path : List ℕ) (effects : List Effect) → over_of old ≡ None → old.finished ≡ is_some (over_of old) → Lacks old worked seen path new effects
    → Moves old new None effects
need_moves old new worked seen path effects goes_on finished c = ⊎_elim
    (λ r. by_known _ (StartsAgain old r.waiting.job new effects) (Awaits old r.waiting.job path new effects) (Moves old new None effects) r.so
    (λ a. moves_on_as old new effects goes_on
    (ap over_of a.new_is ∙ ap (λ (b : Bool). if b then old.ending else None) (nil_again _ _ _ _ old.pending))
    (ap (λ (core : Core). core.ending) a.new_is) (ap (λ (core : Core). core.finished) a.new_is) finished (ap finish_of a.effects_are))
    (λ e a. moves_on_as old new effects goes_on (ap over_of a.new_is)
    (ap (λ (core : Core). core.ending) a.new_is) (ap (λ (core : Core). core.finished) a.new_is) finished (ap finish_of a.effects_are)))
    (λ q. moves_not old new effects q.same finished q.none) c

load_moves : (old new : Core) (message : ℕ) (path : List ℕ) (read : Read) (effects : List Effect) → over_of old ≡ None → old.finished ≡ is_some (over_of old) → Loads old message path read new effects ⊎ IsLost old message new effects
    → Moves old new None effects
load_moves old new message path read effects goes_on finished c = ⊎_elim
    (λ r. moves_on_as old new effects goes_on
    (ap over_of r.new_is ∙ ap (λ (b : Bool). if b then old.ending else None) (nil_again _ _ _ _ old.pending))
    (ap (λ (core : Core). core.ending) r.new_is) (ap (λ (core : Core). core.finished) r.new_is) finished (ap finish_of r.effects_are))
    (λ q. moves_not old new effects q.same finished q.none) c

end_moves : (old new : Core) (e : Ending) (effects : List Effect) (shut_down : Bool) → over_of old ≡ None → Stops old e new effects → Moves old new (status_by shut_down (event.End e)) effects
end_moves old new e effects shut_down goes_on stops =
    moves_as old new (status_by shut_down (event.End e)) (first_ending old.ending (status_of e)) old.pending [] effects goes_on
    (ap (λ (core : Core). core.pending) stops.same) (ap (λ (core : Core). core.ending) stops.same) (end_gives shut_down old.ending e)
    (ap (λ (core : Core). core.finished) stops.same ∙ end_is_some (is_nil old.pending) old.ending (status_of e)) refl stops.effects_are

moves_on : (old new : Core) (e : Event) (effects : List Effect) (shut_down : Bool) → over_of old ≡ None → old.finished ≡ is_some (over_of old) → shut_down ≡ new.shut_down
    → StepsOn old e new effects → Moves old new (status_by shut_down e) effects
moves_on old new (event.Message p) effects shut_down goes_on finished is_shut takes = message_moves old new (class_of p) effects shut_down goes_on is_shut takes
moves_on old new (event.Loaded path read) effects shut_down goes_on finished is_shut c = load_moves old new (awaited_message old) path read effects goes_on finished c
moves_on old new (event.Done done) effects shut_down goes_on finished is_shut c = job_moves old new done.job done.seen _ _ _ effects goes_on finished c
moves_on old new (event.Need need) effects shut_down goes_on finished is_shut c = need_moves old new need.job need.seen need.path effects goes_on finished c
moves_on old new (event.NoMemory job) effects shut_down goes_on finished is_shut c = job_moves old new job [] _ _ _ effects goes_on finished c
moves_on old new (event.End e) effects shut_down goes_on finished is_shut stops = end_moves old new e effects shut_down goes_on stops

-- an event that is heard comes to a session that isn't over
unfinished : (a b : Bool) → (not a && b) ≡ true → a ≡ false
unfinished true b e = absurd (false≢true e)
unfinished false b e = refl

step_moves : (b : Bool) (old new : Core) (e : Event) (effects : List Effect) (shut_down : Bool) → hears old e ≡ b → old.finished ≡ is_some (over_of old) → shut_down ≡ new.shut_down
    → MatchBool b (StepsOn old e new effects) ((new ≡ old) × (effects ≡ [])) → Moves old new (if b then status_by shut_down e else None) effects
step_moves true old new e effects shut_down is finished is_shut on =
    moves_on old new e effects shut_down (none_if (over_of old) (sym finished ∙ unfinished old.finished _ is)) finished is_shut on
step_moves false old new e effects shut_down is finished is_shut q = moves_not old new effects q.0 finished q.1

put_moves : (b : Bool) (given : Given) (old new : Core) (put : Put) → put.heard ≡ hears old put.event → old.finished ≡ is_some (over_of old) → is_shut_down given (reverse put.journal) ≡ new.shut_down
    → MatchBool b (Steps old put.event new put.effects) ((new ≡ old) × (put.effects ≡ []))
    → Moves old new (if b then (if put.heard then status_by (is_shut_down given (reverse put.journal)) put.event else None) else None) put.effects
put_moves true given old new put heard finished is_shut steps =
    subst (λ (h : Bool). Moves old new (if h then status_by (is_shut_down given (reverse put.journal)) put.event else None) put.effects) (sym heard)
    (step_moves (hears old put.event) old new put.event put.effects (is_shut_down given (reverse put.journal)) refl finished is_shut steps)
put_moves false given old new put heard finished is_shut q = moves_not old new put.effects q.0 finished q.1

-- ---- a run

nil_mapped : (ws : List Waiting) → is_nil (map number_of ws) ≡ is_nil ws
nil_mapped [] = refl
nil_mapped (w ∷ ws) = refl

keeps_more : (given : Given) (put : Put) (past : List Put) (old new : Core) → Keeps given past old → StandsFor given new → TakesPut given old put new
    → Keeps given (put ∷ past) new × EndsAs (over given past) (over given (put ∷ past)) put.effects
keeps_more given put past old new keeps stands takes =
    let shut : is_shut_down given (reverse put.journal) ≡ new.shut_down = ap (λ (j : List Entry). is_shut_down given (reverse j)) takes.told ∙ sym stands.shut_down in
    let moves : Moves old new (status_of_put given put) put.effects = put_moves put.taken given old new put takes.hears_it keeps.finished shut takes.steps in
    let first : first_status given (put ∷ past) ≡ new.ending = ap (λ (o : Option ℕ). earlier_or o (status_of_put given put)) keeps.first ∙ sym moves.ending in
    let none : is_nil (pending given (reverse put.journal)) ≡ is_nil new.pending =
    ap (λ (j : List Entry). is_nil (pending given (reverse j))) takes.told ∙ ap is_nil (sym stands.waiting) ∙ nil_mapped new.pending in
    let is : over given (put ∷ past) ≡ over_of new =
    ap (λ (b : Bool). if b then first_status given (put ∷ past) else None) none ∙ ap (λ (o : Option ℕ). if is_nil new.pending then o else None) first in (
      record { first = first; is_over = is; finished = moves.finished },
      subst (λ (o : Option ℕ). EndsAs o (over given (put ∷ past)) put.effects) (sym keeps.is_over)
          (subst (λ (o : Option ℕ). EndsAs (over_of old) o put.effects) (sym is) moves.ends),
    )

no_status : (b : Bool) → ◌≡◌ {A = Option ℕ} (if b then None else None) None
no_status true = refl
no_status false = refl

idle_over : (core : Core) → core.ending ≡ None → over_of core ≡ None
idle_over core e = over_as core core.pending None refl e ∙ no_status (is_nil core.pending)

keeps_fresh : (given : Given) (fresh : Core) → IsIdle fresh → Keeps given [] fresh
keeps_fresh given fresh idle = record {
  first = sym idle.goes_on;
  is_over = sym (idle_over fresh idle.goes_on);
  finished = idle.not_over ∙ sym (ap is_some (idle_over fresh idle.goes_on));
}

pub ends_run : (given : Given) (puts : List Put) (fresh core : Core) → StandsFor given fresh → journal_of fresh ≡ [] → IsIdle fresh → Runs given fresh puts core
    → Keeps given puts core × EndsOnce given puts
ends_run given [] fresh core stands none idle run = (subst (Keeps given []) (sym run) (keeps_fresh given fresh idle), tt)
ends_run given (put ∷ past) fresh core stands none idle (before, runs, takes) =
    let goes = goes_run given (put ∷ past) fresh core (starts given fresh stands none) (before, runs, takes) in
    let so_far = ends_run given past fresh before stands none idle runs in
    let more = keeps_more given put past before core so_far.0 goes.0 takes in
    (more.0, (more.1, so_far.1))

pub ends_once : (given : Given) (puts : List Put) (fresh core : Core) → StandsFor given fresh → journal_of fresh ≡ [] → IsIdle fresh → Runs given fresh puts core → EndsOnce given puts
ends_once given puts fresh core stands none idle runs = (ends_run given puts fresh core stands none idle runs).1

-- What a step of the core and the writing of its replies leave.
use Rattle.std.proofs.Common.{◌≡◌, ◌⊎◌, inl, inr, refl, ℕ, ◌+◌, ◌≤◌, List, [], ◌∷◌, ◌++◌, map, Bool, true, false, sym, ap, subst, ◌∙◌, append_assoc, append-nil, length-append, arith}
use Rattle.std.specs.Prelude.{Option, Some, None, Result, Ok, Err, is_some, length, slice_get, if◌then◌else◌}
use Rattle.std.specs.Bool.{MatchBool}
use Rattle.std.specs.Io.KnownBytes.{append_known}
use Rattle.cl_base.specs.Reads.{Reads}
use Rattle.cl_base.specs.declared.headers.Read.{Read}
use Rattle.cl_rpc.specs.declared.call.Parsed.{Parsed}
use Rattle.cl_rpc.specs.Classes.{class_of}
use Rattle.cl_core.specs.declared.core_state.Core.{Core}
use Rattle.cl_core.specs.declared.event.Effect.{Effect}
use Rattle.cl_core.specs.declared.event.Event.{Event}
use Rattle.cl_core.specs.declared.event.Event.TheVariants as event
use Rattle.cl_query.specs.declared.job.Job.{Job}
use Rattle.cl_query.specs.AnswerOf.{AnswerOf}
use Rattle.cl_history.specs.Given.{Given}
use Rattle.cl_history.specs.History.{pending}
use Rattle.cl_history.specs.Legal.{IsSettled}
use Rattle.cl_history.specs.Written.{Writes}
use Rattle.cl_history.specs.Refusals.{is_exit}
use Rattle.cl_core.specs.Steps.{IsLost, Lacks, Loads, Steps, awaited_message, hears}
use Rattle.cl_query.specs.declared.done.Need.{Need}
use Rattle.cl_headers.specs.declared.dep.Dep.{Dep}
use Rattle.cl_headers.specs.Headers.{known_at}
use Rattle.cl_core.specs.Waiting.{number_of}
use Rattle.cl_core.specs.Standing as standing
use Rattle.cl_core.specs.Standing.{AwaitsRead, EndsTurn, IsIdle, IsNext, IsReady, ReadsFirst, Restarts, StandsFor, TakesTurn, WorksOn, WritesOn, finish_of, frames_of, jobs_of, loads_of, journal_of, messages_taken, past_of, reads_taken}
use Rattle.clsd.specs.First.{first_of}
use Rattle.clsd.specs.declared.turn.Turn.{Turn}
use Rattle.clsd.specs.declared.turn.Turn.TheVariants.{Ends, GoesOn, SinkFailed}
use Rattle.cl_base.specs.declared.memory.Memory.{Memory}
use Rattle.clsd.specs.Serving.{Awaits, EndsWork, Holds, IsCutOff, IsEndOf, IsOver, Keeps, LeavesIdle, LeavesWork, TookReads, TookSome, Turns, Works, turn_of}

-- what a session stands for and has written, before or after a step
pub record Stands (given : Given) (core : Core) (held : List ℕ) : Type 0 where
  pub stands : StandsFor given core
  pub writes : Writes AnswerOf given (past_of core) held
  pub settled : IsSettled given (past_of core)

pub of_keeps : (given : Given) (core : Core) (held : List ℕ) → Keeps given core held → Stands given core held
of_keeps given core held it = record { stands = it.stands; writes = it.writes; settled = it.settled }

pub of_works : (given : Given) (core : Core) (job : Job) (held : List ℕ) → Works given core job held → Stands given core held
of_works given core job held it = record { stands = it.stands; writes = it.writes; settled = it.settled }

pub of_awaits : (given : Given) (core : Core) (path held : List ℕ) → Awaits given core path held → Stands given core held
of_awaits given core path held it = record { stands = it.stands; writes = it.writes; settled = it.settled }

-- it is cut off as it is
pub cut : (given : Given) (core : Core) (held : List ℕ) → Stands given core held → IsCutOff given core held
cut given core held now = record { stands = now.stands; unwritten = []; writes = rw (append-nil held) now.writes; settled = now.settled }

-- a front of the replies was written
pub part_written : (given : Given) (new : Core) (held all front rest : List ℕ) (before sink : Option (List ℕ))
    → Stands given new (held ++ all) → before ≡ Some held → all ≡ front ++ rest → sink ≡ append_known before front
    → Holds sink (IsCutOff given new)
part_written given new held all front rest before sink now told parts wrote = (
  held ++ front,
  wrote ∙ ap (λ (w : Option (List ℕ)). append_known w front) told,
  record {
    stands = now.stands;
    unwritten = rest;
    writes = subst (Writes AnswerOf given (past_of new)) (ap (λ (w : List ℕ). held ++ w) parts ∙ sym (append_assoc held front rest)) now.writes;
    settled = now.settled;
  },
)

-- all replies were written
pub all_written : (held all : List ℕ) (before sink : Option (List ℕ)) → before ≡ Some held → sink ≡ append_known before all → sink ≡ Some (held ++ all)
all_written held all before sink told wrote = wrote ∙ ap (λ (w : Option (List ℕ)). append_known w all) told

-- and the work was then cut off
pub cut_off : (given : Given) (new : Core) (held : List ℕ) (sink : Option (List ℕ)) → Stands given new held → sink ≡ Some held → Holds sink (IsCutOff given new)
cut_off given new held sink now told =
    (held, told, record { stands = now.stands; unwritten = []; writes = rw (append-nil held) now.writes; settled = now.settled })

-- where none waits none is pending
pub none_pending : (given : Given) (core : Core) → StandsFor given core → core.pending ≡ [] → pending given (past_of core) ≡ []
none_pending given core stands none = sym stands.waiting ∙ ap (map number_of) none

pub is_over : (given : Given) (core : Core) (held : List ℕ) → Stands given core held → core.pending ≡ [] → IsOver given core held
is_over given core held now none = record { stands = now.stands; writes = now.writes; settled = now.settled; none_pending = none_pending given core now.stands none }

-- ---- the event of a job's end

either_way : (b : Bool) (A : Type 0) → A → MatchBool b A (Unit {0})
either_way true A a = a
either_way false A a = tt

pub end_is_next : (given : Given) (core : Core) (job : Job) (e : Event) → IsEndOf job e → IsNext given core e
end_is_next given core job (event.Message p) is = absurd is
end_is_next given core job (event.Loaded path read) is = absurd is
end_is_next given core job (event.Done done) is = either_way (hears core (event.Done done)) _ tt
end_is_next given core job (event.Need need) is = absurd is
end_is_next given core job (event.NoMemory same) is = either_way (hears core (event.NoMemory same)) _ tt
end_is_next given core job (event.End how) is = absurd is

pub end_is_ready : (core : Core) (job : Job) (e : Event) → IsEndOf job e → IsReady core e
end_is_ready core job (event.Message p) is = absurd is
end_is_ready core job (event.Loaded path read) is = absurd is
end_is_ready core job (event.Done done) is = tt
end_is_ready core job (event.Need need) is = absurd is
end_is_ready core job (event.NoMemory same) is = tt
end_is_ready core job (event.End how) is = absurd is

-- it ends the turn, and no message is taken
pub end_turns : (old new : Core) (job : Job) (e : Event) (effects : List Effect) → IsEndOf job e → standing.Turns old e new effects → WorksOn old job
    → (messages_taken new ≡ messages_taken old) × (reads_taken new ≡ reads_taken old) × EndsTurn new effects
end_turns old new job (event.Message p) effects is turns works = absurd is
end_turns old new job (event.Loaded path read) effects is turns works = absurd is
end_turns old new job (event.Done done) effects is turns works = turns (subst (WorksOn old) (sym is) works)
end_turns old new job (event.Need need) effects is turns works = absurd is
end_turns old new job (event.NoMemory same) effects is turns works = turns (subst (WorksOn old) (sym is) works)
end_turns old new job (event.End how) effects is turns works = absurd is

-- what a job's end leaves before its reply is written
pub end_stands : (given : Given) (old new : Core) (job : Job) (e : Event) (effects : List Effect) (held : List ℕ) → IsEndOf job e → Works given old job held
    → ((g : Given) → IsNext g old e → StandsFor g old → StandsFor g new)
    → ((g : Given) → IsNext g old e → StandsFor g old → WritesOn g old new effects)
    → ((g : Given) → StandsFor g old → IsReady old e → IsSettled g (past_of old) → IsSettled g (past_of new))
    → Stands given new (held ++ frames_of effects)
end_stands given old new job e effects held is works stands writes settles = record {
  stands = stands given (end_is_next given old job e is) works.stands;
  writes = writes given (end_is_next given old job e is) works.stands held works.writes;
  settled = settles given works.stands (end_is_ready old job e is) works.settled;
}

-- ---- a message

-- what a message leaves before its replies are written
pub message_leaves : (given : Given) (old new : Core) (p : Parsed) (effects : List Effect) (held : List ℕ) → slice_get given.messages (messages_taken old) ≡ Some p → Keeps given old held
    → ((g : Given) → IsNext g old (event.Message p) → StandsFor g old → StandsFor g new)
    → ((g : Given) → IsNext g old (event.Message p) → StandsFor g old → WritesOn g old new effects)
    → ((g : Given) → StandsFor g old → IsReady old (event.Message p) → IsSettled g (past_of old) → IsSettled g (past_of new))
    → Stands given new (held ++ frames_of effects)
message_leaves given old new p effects held look keeps stands writes settles =
    let next : IsNext given old (event.Message p) = either_way (hears old (event.Message p)) _ look in
    record {
      stands = stands given next keeps.stands;
      writes = writes given next keeps.stands held keeps.writes;
      settled = settles given keeps.stands keeps.idle.none_waits keeps.settled;
    }

-- the job that a message started is worked on
starts_job_if : (is_last : Bool) (old new : Core) (effects : List Effect) (job : Job) → TakesTurn is_last old new effects → Some job ≡ first_of (jobs_of effects)
    → (is_last ≡ false) × WorksOn new job
starts_job_if true old new effects job turn first =
    let none : first_of (jobs_of effects) ≡ None = ap first_of turn.0 in let clash : ⊥ = cc in absurd clash
starts_job_if false old new effects job (loads, goes_on, inl none) first =
    let none : first_of (jobs_of effects) ≡ None = ap first_of none.0 in let clash : ⊥ = cc in absurd clash
starts_job_if false old new effects job (loads, goes_on, inr (same, started, works)) first =
    let is : first_of (jobs_of effects) ≡ Some same = ap first_of started in
    let equal : same ≡ job = cc in
    (refl, subst (WorksOn new) equal works)

pub starts_job : (old new : Core) (p : Parsed) (effects : List Effect) (job : Job) → TakesTurn (is_exit (class_of p)) old new effects → Some job ≡ first_of (jobs_of effects)
    → (is_exit (class_of p) ≡ false) × WorksOn new job
starts_job old new p effects job turn first = starts_job_if (is_exit (class_of p)) old new effects job turn first

abbrev exit_status : Bool → ℕ
exit_status b = if b then 0 else 1

zero_or_one : (b : Bool) → (exit_status b ≡ 0) ⊎ (exit_status b ≡ 1)
zero_or_one true = inl refl
zero_or_one false = inr refl

-- it started none: the session goes on or ends
no_job_if : (given : Given) (is_last : Bool) (old new : Core) (p : Parsed) (effects : List Effect) (now : List ℕ) (sink : Option (List ℕ)) → is_exit (class_of p) ≡ is_last
    → TakesTurn is_last old new effects → None ≡ first_of (jobs_of effects) → messages_taken new ≡ messages_taken old + 1 → reads_taken new ≡ reads_taken old + 0 → Stands given new now → sink ≡ Some now
    → Turns given old p new [] sink (Ok (turn_of (finish_of effects)))
no_job_if given true old new p effects now sink exits turn none count reads stands told =
    subst (λ (f : Option ℕ). Turns given old p new [] sink (Ok (turn_of f))) (sym turn.2)
    ((now, told, is_over given new now stands turn.3), count, reads, exits, ap (λ (b : Bool). if b then 0 else 1) (sym turn.4 ∙ stands.stands.shut_down))
no_job_if given false old new p effects now sink exits (loads, goes_on, inl both) none count reads stands told =
    subst (λ (f : Option ℕ). Turns given old p new [] sink (Ok (turn_of f))) (sym goes_on)
    ((now, told, record { stands = stands.stands; writes = stands.writes; settled = stands.settled; idle = both.1 }), count, reads, exits)
no_job_if given false old new p effects now sink exits (loads, goes_on, inr (job, started, works)) none count reads stands told =
    let some : first_of (jobs_of effects) ≡ Some job = ap first_of started in let clash : ⊥ = cc in absurd clash

pub no_job : (given : Given) (old new : Core) (p : Parsed) (effects : List Effect) (now : List ℕ) (sink : Option (List ℕ))
    → TakesTurn (is_exit (class_of p)) old new effects → None ≡ first_of (jobs_of effects) → messages_taken new ≡ messages_taken old + 1 → reads_taken new ≡ reads_taken old → Stands given new now → sink ≡ Some now
    → Turns given old p new [] sink (Ok (turn_of (finish_of effects)))
no_job given old new p effects now sink turn none count reads stands told =
    no_job_if given (is_exit (class_of p)) old new p effects now sink refl turn none count (let none_more : reads_taken new ≡ reads_taken old + 0 = omega (arith, reads) in none_more) stands told

no_job_idle_if : (is_last : Bool) (old new : Core) (effects : List Effect) → TakesTurn is_last old new effects → None ≡ first_of (jobs_of effects) → LeavesIdle new (Ok (turn_of (finish_of effects)))
no_job_idle_if true old new effects turn none = subst (λ (f : Option ℕ). LeavesIdle new (Ok (turn_of f))) (sym turn.2) (zero_or_one old.shut_down)
no_job_idle_if false old new effects (loads, goes_on, inl both) none = subst (λ (f : Option ℕ). LeavesIdle new (Ok (turn_of f))) (sym goes_on) both.1
no_job_idle_if false old new effects (loads, goes_on, inr (job, started, works)) none =
    let some : first_of (jobs_of effects) ≡ Some job = ap first_of started in let clash : ⊥ = cc in absurd clash

pub no_job_idle : (old new : Core) (p : Parsed) (effects : List Effect) → TakesTurn (is_exit (class_of p)) old new effects → None ≡ first_of (jobs_of effects) → LeavesIdle new (Ok (turn_of (finish_of effects)))
no_job_idle old new p effects turn none = no_job_idle_if (is_exit (class_of p)) old new effects turn none

-- what its job leaves is what the turn leaves
pub job_turn : (given : Given) (old mid new : Core) (p : Parsed) (made : Reads) (sink : Option (List ℕ)) (res : Result Turn Memory)
    → messages_taken mid ≡ messages_taken old + 1 → reads_taken mid ≡ reads_taken old → is_exit (class_of p) ≡ false
    → EndsWork given mid new made sink res → Turns given old p new made sink res
job_turn given old mid new p made sink (Ok GoesOn) count reads goes_on ends = (ends.0, ends.1.0 ∙ count, ends.1.1 ∙ ap (λ (n : ℕ). n + length made) reads, goes_on)
job_turn given old mid new p made sink (Ok (Ends status)) count reads goes_on ends = absurd ends
job_turn given old mid new p made sink (Ok SinkFailed) count reads goes_on ends = (ends.0, omega (arith, ends.1.0, count), omega (arith, ends.1.1, reads))
job_turn given old mid new p made sink (Err memory) count reads goes_on ends = (ends.0, omega (arith, ends.1.0, count), omega (arith, ends.1.1, reads))

-- after a job's end
pub ends_idle : (given : Given) (old new : Core) (now : List ℕ) (sink : Option (List ℕ)) (effects : List Effect) → Stands given new now → sink ≡ Some now
    → EndsTurn new effects → Holds sink (Keeps given new)
ends_idle given old new now sink effects stands told ends = (now, told, record { stands = stands.stands; writes = stands.writes; settled = stands.settled; idle = ends.idle })

-- ---- a need, and a read

-- whichever of the two holds
heard_or_not : (b : Bool) (A B : Type 0) (P : Type 0) → MatchBool b A B → (A → P) → (B → P) → P
heard_or_not true A B P it f g = f it
heard_or_not false A B P it f g = g it

none_written : (old new : Core) (job : Job) (path : List ℕ) (seen : List Dep) (effects : List Effect) → Lacks old job seen path new effects → frames_of effects ≡ []
none_written old new job path seen effects (inl needs) =
    heard_or_not (is_some (known_at old.headers path)) _ _ (frames_of effects ≡ []) needs.so (λ again. ap frames_of again.effects_are) (λ awaits. ap frames_of awaits.effects_are)
none_written old new job path seen effects (inr stale) = ap frames_of stale.none

none_written_by_read : (old new : Core) (message : ℕ) (path : List ℕ) (read : Read) (effects : List Effect) → Loads old message path read new effects ⊎ IsLost old message new effects → frames_of effects ≡ []
none_written_by_read old new message path read effects (inl loads) = ap frames_of loads.effects_are
none_written_by_read old new message path read effects (inr lost) = ap frames_of lost.none

need_is_quiet : (old new : Core) (need : Need) (effects : List Effect) → Steps old (event.Need need) new effects → frames_of effects ≡ []
need_is_quiet old new need effects steps =
    heard_or_not (hears old (event.Need need)) _ _ (frames_of effects ≡ []) steps (none_written old new need.job need.path need.seen effects) (λ none. ap frames_of none.1)

read_is_quiet : (old new : Core) (path : List ℕ) (read : Read) (effects : List Effect) → Steps old (event.Loaded path read) new effects → frames_of effects ≡ []
read_is_quiet old new path read effects steps =
    heard_or_not (hears old (event.Loaded path read)) _ _ (frames_of effects ≡ []) steps (none_written_by_read old new (awaited_message old) path read effects) (λ none. ap frames_of none.1)

quiet : (given : Given) (new : Core) (held : List ℕ) (effects : List Effect) → frames_of effects ≡ [] → Stands given new (held ++ frames_of effects) → Stands given new held
quiet given new held effects none now = subst (Stands given new) (ap (λ (w : List ℕ). held ++ w) none ∙ append-nil held) now

-- what a need leaves
pub need_stands : (given : Given) (old new : Core) (need : Need) (effects : List Effect) (held : List ℕ) → Stands given old held
    → Steps old (event.Need need) new effects
    → ((g : Given) → IsNext g old (event.Need need) → StandsFor g old → StandsFor g new)
    → ((g : Given) → IsNext g old (event.Need need) → StandsFor g old → WritesOn g old new effects)
    → ((g : Given) → StandsFor g old → IsReady old (event.Need need) → IsSettled g (past_of old) → IsSettled g (past_of new))
    → Stands given new held
need_stands given old new need effects held now steps stands writes settles =
    let next : IsNext given old (event.Need need) = either_way (hears old (event.Need need)) _ tt in
    quiet given new held effects (need_is_quiet old new need effects steps) (record {
      stands = stands given next now.stands;
      writes = writes given next now.stands held now.writes;
      settled = settles given now.stands tt now.settled;
    })

-- what a read leaves
pub read_stands : (given : Given) (old new : Core) (path : List ℕ) (read : Read) (effects : List Effect) (held : List ℕ) → Stands given old held
    → slice_get given.reads (reads_taken old) ≡ Some (path, read)
    → Steps old (event.Loaded path read) new effects
    → ((g : Given) → IsNext g old (event.Loaded path read) → StandsFor g old → StandsFor g new)
    → ((g : Given) → IsNext g old (event.Loaded path read) → StandsFor g old → WritesOn g old new effects)
    → ((g : Given) → StandsFor g old → IsReady old (event.Loaded path read) → IsSettled g (past_of old) → IsSettled g (past_of new))
    → Stands given new held
read_stands given old new path read effects held now look steps stands writes settles =
    let next : IsNext given old (event.Loaded path read) = either_way (hears old (event.Loaded path read)) _ look in
    quiet given new held effects (read_is_quiet old new path read effects steps) (record {
      stands = stands given next now.stands;
      writes = writes given next now.stands held now.writes;
      settled = settles given now.stands tt now.settled;
    })

-- the job that starts again is worked on
pub again : (new : Core) (effects : List Effect) (job : Job) → Restarts new effects → Some job ≡ first_of (jobs_of effects) → WorksOn new job
again new effects job restarts first =
    let is : first_of (jobs_of effects) ≡ Some restarts.job = ap first_of restarts.started in
    let equal : restarts.job ≡ job = cc in
    subst (WorksOn new) equal restarts.works

pub again_or_read : (new : Core) (path : List ℕ) (effects : List Effect) (job : Job) → Restarts new effects ⊎ ReadsFirst path new effects → Some job ≡ first_of (jobs_of effects) → WorksOn new job
again_or_read new path effects job (inl restarts) first = again new effects job restarts first
again_or_read new path effects job (inr reads) first = let none : first_of (jobs_of effects) ≡ None = ap first_of reads.none_started in let clash : ⊥ = cc in absurd clash

-- the path that is read is the one that is awaited
pub reads_path : (new : Core) (needed : List ℕ) (effects : List Effect) (path : List ℕ) → Restarts new effects ⊎ ReadsFirst needed new effects → Some path ≡ first_of (loads_of effects) → AwaitsRead new path
reads_path new needed effects path (inl restarts) first = let none : first_of (loads_of effects) ≡ None = ap first_of restarts.none_loaded in let clash : ⊥ = cc in absurd clash
reads_path new needed effects path (inr reads) first =
    let is : first_of (loads_of effects) ≡ Some needed = ap first_of reads.loads in
    let equal : needed ≡ path = cc in
    subst (AwaitsRead new) equal reads.awaits

-- a need, and then the read
pub then_read : (given : Given) (old mid new : Core) (made : Reads) (held : List ℕ) (P : Job → Type 0) (res : Result Job Memory) → messages_taken mid ≡ messages_taken old → reads_taken mid ≡ reads_taken old
    → LeavesWork P given mid new made held res → LeavesWork P given old new made held res
then_read given old mid new made held P (Ok job) messages reads leaves = (leaves.0, (leaves.1.0 ∙ messages, leaves.1.1 ∙ ap (λ (n : ℕ). n + length made) reads))
then_read given old mid new made held P (Err memory) messages reads leaves =
    (leaves.0, (leaves.1.0 ∙ messages, omega (arith, leaves.1.1, reads)))

-- ---- counts

pub took_none : (core : Core) → TookReads core core []
took_none core = (refl, let same : reads_taken core ≡ reads_taken core + 0 = omega arith in same)

pub some_of : (old new : Core) (made : Reads) → TookReads old new made → TookSome old new made
some_of old new made took = (took.0, omega (arith, took.1))

pub took_more : (old mid new : Core) (xs ys : Reads) → TookReads old mid xs → TookReads mid new ys → TookReads old new (xs ++ ys)
took_more old mid new xs ys first more =
    (more.0 ∙ first.0, more.1 ∙ ap (λ (n : ℕ). n + length ys) first.1 ∙ (let same : reads_taken old + length xs + length ys ≡ reads_taken old + length (xs ++ ys) = omega (arith, length-append xs ys) in same))

pub took_some_more : (old mid new : Core) (xs ys : Reads) → TookReads old mid xs → TookSome mid new ys → TookSome old new (xs ++ ys)
took_some_more old mid new xs ys first more = (more.0 ∙ first.0, omega (arith, first.1, more.1, length-append xs ys))

-- work that starts again, and then what is left of it
pub leaves_more : {X : Type 0} (P : X → Type 0) (given : Given) (old mid new : Core) (xs ys : Reads) (held : List ℕ) (res : Result X Memory) → TookReads old mid xs
    → LeavesWork P given mid new ys held res → LeavesWork P given old new (xs ++ ys) held res
leaves_more P given old mid new xs ys held (Ok x) first leaves = (leaves.0, took_more old mid new xs ys first leaves.1)
leaves_more P given old mid new xs ys held (Err memory) first leaves = (leaves.0, took_some_more old mid new xs ys first leaves.1)

-- ---- what a step leaves of work

-- nothing changed
pub cut_unchanged : (given : Given) (old new : Core) (made : Reads) (held : List ℕ) → new ≡ old → Stands given old held → IsCutOff given new held × TookSome old new made
cut_unchanged given old new made held same now =
    subst (λ (core : Core). IsCutOff given core held × TookSome old core made) (sym same) (cut given old held now, (refl, let few : reads_taken old ≤ reads_taken old + length made = omega arith in few))

-- a step took these reads, and the work was then cut off
pub cut_after : (given : Given) (old new : Core) (made : Reads) (held : List ℕ) → TookReads old new made → Stands given new held → IsCutOff given new held × TookSome old new made
cut_after given old new made held took now = (cut given new held now, some_of old new made took)

-- a step took these reads, and this job is worked on then
pub works_after : (given : Given) (old new : Core) (job : Job) (made : Reads) (held : List ℕ) → TookReads old new made → Stands given new held → WorksOn new job → Works given new job held × TookReads old new made
works_after given old new job made held took now works = (record { stands = now.stands; writes = now.writes; settled = now.settled; works = works }, took)

pub awaits_after : (given : Given) (new : Core) (path held : List ℕ) → Stands given new held → AwaitsRead new path → Awaits given new path held
awaits_after given new path held now awaits = record { stands = now.stands; writes = now.writes; settled = now.settled; awaits = awaits }

-- the counts after a need, and after a read
pub took_need : (old new : Core) → messages_taken new ≡ messages_taken old → reads_taken new ≡ reads_taken old → TookReads old new []
took_need old new messages reads = (messages, omega (arith, reads))

pub took_read : (old new : Core) (read : List ℕ × Read) → messages_taken new ≡ messages_taken old → reads_taken new ≡ reads_taken old + 1 → TookReads old new (read ∷ [])
took_read old new read messages reads = (messages, reads)

-- and after the end of the job that was worked on
pub then_ended : (old mid new : Core) (made : Reads) → TookReads old mid made → messages_taken new ≡ messages_taken mid → reads_taken new ≡ reads_taken mid → TookReads old new made
then_ended old mid new made took messages reads = (messages ∙ took.0, reads ∙ took.1)

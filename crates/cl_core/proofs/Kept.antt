-- What each step keeps.
use Rattle.std.proofs.Common.{◌≡◌, ℕ, List, [], length, Bool, true, false, MatchBool, refl, sym, ap, subst}
use Rattle.std.specs.Prelude.{Option, Some, None, ◌&&◌, not, option_map, unwrap_or}
use Rattle.std.specs.Str.{bytes_eq}
use Rattle.std.proofs.lemmas.Bool.{false≢true}
use Rattle.cl_base.specs.declared.answer.Answer.{Answer}
use Rattle.cl_base.specs.declared.headers.Read.{Read}
use Rattle.cl_query.specs.declared.job.Job.{Job}
use Rattle.cl_headers.specs.declared.dep.Dep.{Dep}
use Rattle.cl_query.specs.AnswerOf.{AnswerOf, NeedsOf}
use Rattle.cl_query.specs.Seen.{NeedRests, Rests}
use Rattle.cl_query.specs.Over.{IsOver}
use Rattle.cl_rpc.specs.declared.out.How.TheVariants as how
use Rattle.cl_rpc.specs.declared.out.Out.TheVariants as out
use Rattle.cl_rpc.specs.Classes.{class_of}
use Rattle.cl_history.specs.Given.{Given}
use Rattle.cl_history.specs.Refusals.{out_of_memory}
use Rattle.cl_core.specs.declared.core_state.Core.{Core}
use Rattle.cl_core.specs.declared.core_state.Awaited.{Awaited}
use Rattle.cl_core.specs.declared.event.Event.{Event}
use Rattle.cl_core.specs.declared.event.Event.TheVariants as event
use Rattle.cl_core.specs.declared.event.Effect.{Effect}
use Rattle.cl_core.specs.Steps.{StepsOn, Steps, hears, is_awaited, awaited_message}
use Rattle.cl_core.specs.Standing.{StandsFor, IsNext, IsNextOf, WritesOn}
use Rattle.cl_core.proofs.Dues.{said_is}
use Rattle.cl_core.proofs.MessageStands.{message_stands}
use Rattle.cl_core.proofs.JobStands.{same_stands, job_stands, need_stands, load_stands, stop_stands}
use Rattle.cl_core.proofs.Writing.{message_writes, job_writes, need_writes, load_writes, stop_writes, nothing_writes}

-- ---- what is heard

second : (a b : Bool) → (a && b) ≡ true → b ≡ true
second true b e = e
second false b e = absurd (false≢true e)

pub first : (a b : Bool) → (not a && b) ≡ true → a ≡ false
first true b e = absurd (false≢true e)
first false b e = refl

-- while an event is heard that is no read, none is awaited
abbrev NoRead : Event → Type 0
NoRead (event.Loaded path read) = ⊥
NoRead _ = Unit {0}

none_by : (o : Option Awaited) (e : Event) → NoRead e → is_awaited o e ≡ true → o ≡ None
none_by None e calm heard = refl
none_by (Some a) (event.Message p) calm heard = absurd (false≢true heard)
none_by (Some a) (event.Loaded path read) calm heard = absurd calm
none_by (Some a) (event.Done done) calm heard = absurd (false≢true heard)
none_by (Some a) (event.Need need) calm heard = absurd (false≢true heard)
none_by (Some a) (event.NoMemory job) calm heard = absurd (false≢true heard)
none_by (Some a) (event.End e) calm heard = absurd (false≢true heard)

pub none_awaited : (old : Core) (e : Event) → NoRead e → hears old e ≡ true → old.awaited ≡ None
none_awaited old e calm heard = none_by old.awaited e calm (second (not old.finished) (is_awaited old.awaited e) heard)

some_by : (o : Option Awaited) (path : List ℕ) (read : Read) → is_awaited o (event.Loaded path read) ≡ true → (a : Awaited) × (o ≡ Some a) × (bytes_eq a.path path ≡ true)
some_by None path read heard = absurd (false≢true heard)
some_by (Some a) path read heard = (a, refl, heard)

-- ---- work on a job is work on the one that is out

mark_of : (worked : Job) (seen : List Dep) (job : Job) → IsOver worked seen job → worked.mark ≡ job.mark
mark_of worked seen job over = ap (λ (j : Job). j.mark) over.same

answers_over : (worked : Job) (seen : List Dep) (job : Job) (answer : Answer) → IsOver worked seen job → Rests worked.kind worked.config seen worked.path worked.text answer
    → AnswerOf job.kind job.config job.headers job.path job.text answer
answers_over worked seen job answer over rests =
    subst (λ (j : Job). AnswerOf j.kind j.config job.headers j.path j.text answer) over.same (rests job.headers over.agrees)

needs_over : (worked : Job) (seen : List Dep) (job : Job) (path : List ℕ) → IsOver worked seen job → NeedRests worked.kind worked.config seen worked.path worked.text path
    → NeedsOf job.kind job.config job.headers job.path job.text path
needs_over worked seen job path over rests =
    subst (λ (j : Job). NeedsOf j.kind j.config job.headers j.path j.text path) over.same (rests job.headers over.agrees)

-- ---- a step

pub by_hearing : (b : Bool) (P Q R : Type 0) → MatchBool b P Q → (b ≡ true → P → R) → (Q → R) → R
by_hearing true P Q R m f g = f refl m
by_hearing false P Q R m f g = g m

next_of : (b : Bool) (N : Type 0) → MatchBool b N (Unit {0}) → b ≡ true → N
next_of true N next e = next
next_of false N next e = absurd (false≢true e)

stands_on : (given : Given) (old new : Core) (e : Event) (effects : List Effect)
    → hears old e ≡ true → IsNextOf given old e → StandsFor given old → StepsOn old e new effects → StandsFor given new
stands_on given old new (event.Message p) effects heard next s takes = message_stands given old new (class_of p) effects (said_is given old.messages p next) s takes
stands_on given old new (event.Loaded path read) effects heard next s c =
    let one = some_by old.awaited path read (second (not old.finished) (is_awaited old.awaited (event.Loaded path read)) heard) in
    load_stands given old new (awaited_message old) path read effects one.0 next s one.1 (sym (ap (λ (o : Option Awaited). unwrap_or (option_map (λ (a : Awaited). a.message) o) 0) one.1)) one.2 c
stands_on given old new (event.Done done) effects heard next s c =
    job_stands given old new done.job done.seen done.job.mark how.Answered (out.Answer done.answer) effects s (none_awaited old (event.Done done) tt heard) (λ job over. mark_of done.job done.seen job over) c
stands_on given old new (event.Need need) effects heard next s c =
    need_stands given old new need.job need.seen need.path effects s (none_awaited old (event.Need need) tt heard) (λ job over. needs_over need.job need.seen job need.path over need.valid) c
stands_on given old new (event.NoMemory job) effects heard next s c =
    job_stands given old new job [] (length old.journal) how.Memory (out.Error out_of_memory) effects s (none_awaited old (event.NoMemory job) tt heard) (λ other over. refl) c
stands_on given old new (event.End e) effects heard next s stops = stop_stands given old new e effects s stops

pub step_stands : (given : Given) (old new : Core) (e : Event) (effects : List Effect)
    → IsNext given old e → StandsFor given old → Steps old e new effects → StandsFor given new
step_stands given old new e effects next s steps = by_hearing (hears old e) _ _ (StandsFor given new) steps
    (λ heard on. stands_on given old new e effects heard (next_of (hears old e) (IsNextOf given old e) next heard) s on)
    (λ q. same_stands given old new q.0 s)

writes_on : (given : Given) (old new : Core) (e : Event) (effects : List Effect)
    → IsNextOf given old e → StandsFor given old → StepsOn old e new effects → WritesOn given old new effects
writes_on given old new (event.Message p) effects next s takes = message_writes given old new (class_of p) effects (said_is given old.messages p next) s takes
writes_on given old new (event.Loaded path read) effects next s c = load_writes given old new (awaited_message old) path read effects c
writes_on given old new (event.Done done) effects next s c =
    job_writes given old new done.job done.seen done.job.mark how.Answered (out.Answer done.answer) effects s
    (λ job over. (mark_of done.job done.seen job over, (done.answer, answers_over done.job done.seen job done.answer over done.valid, refl))) c
writes_on given old new (event.Need need) effects next s c = need_writes given old new need.job need.seen need.path effects c
writes_on given old new (event.NoMemory job) effects next s c = job_writes given old new job [] (length old.journal) how.Memory (out.Error out_of_memory) effects s (λ other over. (tt, refl)) c
writes_on given old new (event.End e) effects next s stops = stop_writes given old new e effects stops

pub step_writes : (given : Given) (old new : Core) (e : Event) (effects : List Effect)
    → IsNext given old e → StandsFor given old → Steps old e new effects → WritesOn given old new effects
step_writes given old new e effects next s steps = by_hearing (hears old e) _ _ (WritesOn given old new effects) steps
    (λ heard on. writes_on given old new e effects (next_of (hears old e) (IsNextOf given old e) next heard) s on)
    (λ q. nothing_writes given old new effects q.0 q.1)

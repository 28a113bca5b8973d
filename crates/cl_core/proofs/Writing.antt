-- What a step writes.
use Rattle.std.proofs.Common.{◌≡◌, ◌⊎◌, ⊎_elim, ℕ, ℤ, ◌+◌, List, [], ◌∷◌, ◌++◌, length, map, refl, sym, ap, ◌∙◌, subst, append-nil, append_assoc, eq-eqb, Some, None, Option, true, false, Bool}
use Rattle.std.specs.List.{AllByRecursion}
use Rattle.cl_base.specs.declared.answer.Answer.{Answer}
use Rattle.cl_base.specs.declared.config.Settings.{Settings}
use Rattle.cl_base.specs.declared.headers.Read.{Read}
use Rattle.cl_rpc.specs.declared.id.Id.{Id}
use Rattle.cl_rpc.specs.declared.out.How.{How}
use Rattle.cl_rpc.specs.declared.out.How.TheVariants as how
use Rattle.cl_rpc.specs.declared.out.Out.{Out}
use Rattle.cl_rpc.specs.declared.out.Out.TheVariants as out
use Rattle.cl_rpc.specs.declared.out.Reply.{Reply}
use Rattle.cl_rpc.specs.Replies.{reply_frame}
use Rattle.cl_rpc.specs.Classes.{Class, initialises, shuts_down, cancels}
use Rattle.cl_query.specs.declared.job.Job.{Job}
use Rattle.cl_headers.specs.declared.dep.Dep.{Dep}
use Rattle.cl_query.specs.AnswerOf.{AnswerOf}
use Rattle.cl_query.specs.Over.{IsOver}
use Rattle.cl_history.specs.declared.entry.Entry.{Entry}
use Rattle.cl_history.specs.declared.entry.Entry.TheVariants as entry
use Rattle.cl_history.specs.Given.{Given, said}
use Rattle.cl_history.specs.Refusals.{id_of, out_of_memory}
use Rattle.cl_history.specs.History.{End, is_meant, refusal}
use Rattle.cl_history.specs.Headers.{AreHeadersAt, past_at}
use Rattle.cl_history.specs.Legal.{before, how_ended}
use Rattle.cl_history.specs.Written.{IsOut, Tells, EntryWrites, Writes}
use Rattle.cl_core.specs.declared.core_state.Core.{Core}
use Rattle.cl_core.specs.declared.event.Effect.{Effect}
use Rattle.cl_core.specs.declared.event.Effect.TheVariants as effect
use Rattle.cl_core.specs.declared.event.Ending.{Ending}
use Rattle.cl_core.specs.declared.waiting.Waiting.{Waiting}
use Rattle.cl_core.specs.Waiting.{class_of_waiting}
use Rattle.cl_core.specs.Deciding.{code_of, core_refusal, ended, ends_by, entry_of, meant_by, replies_by, replies_if_accepted, replies_of, reply_by, started_by}
use Rattle.cl_core.specs.Steps.{Takes, Replies, Completes, Stops, StartsAgain, Awaits, Lacks, Loads, IsLost, start_jobs, finish, finish_if, ending_after, pending_after, left_after, first_ending, status_of}
use Rattle.cl_pending.specs.Meant.{is_nil}
use Rattle.cl_core.specs.Standing.{Asks, StandsFor, WritesOn, frames_of, past_of}
use Rattle.cl_core.proofs.Onto.{onto}
use Rattle.cl_core.proofs.Dues.{same_refusal}
use Rattle.cl_core.proofs.MessageStands.{new_past}
use Rattle.cl_core.proofs.JobStands.{past_with, by_known}
use Rattle.cl_core.proofs.Waits.{one_of, all_left}

-- ---- frames

frames_of_replies : (rs : List Reply) (es : List Effect) → frames_of es ≡ [] → frames_of (map effect.Reply rs ++ es) ≡ frames_of (map effect.Reply rs)
frames_of_replies [] es e = e
frames_of_replies (r ∷ rs) es e = ap (λ (more : List ℕ). reply_frame r ++ more) (frames_of_replies rs es e)

no_frames_of_finish : (o : Option ℕ) (none_left : Bool) → frames_of (finish_if o none_left) ≡ []
no_frames_of_finish None none_left = refl
no_frames_of_finish (Some status) true = refl
no_frames_of_finish (Some status) false = refl

no_frames_of_jobs : (ws : List Waiting) (es : List Effect) → frames_of es ≡ [] → frames_of (start_jobs ws ++ es) ≡ []
no_frames_of_jobs [] es e = e
no_frames_of_jobs (w ∷ ws) es e = no_frames_of_jobs ws es e

-- ---- replies, one after another

-- the reply is that of its message, whatever is known at its mark
record TellsEver (given : Given) (past : List Entry) (r : Reply) : Type 0 where
  pub id_is : r.id ≡ id_of (said given r.message)
  pub out_is : (marked : List Entry) → IsOut AnswerOf given (before past r.message) marked (said given r.message) r.how r.out

abbrev AllTell : Given → List Entry → List Reply → Type 0
AllTell given past rs = AllByRecursion (TellsEver given past) rs

tells_now : (given : Given) (past : List Entry) (r : Reply) → TellsEver given past r → Tells AnswerOf given past r.message r.mark r.how r
tells_now given past r t = record { message = refl; marked = refl; how_so = refl; id_is = t.id_is; out_is = t.out_is (past_at past r.mark) }

all_tell_after : (given : Given) (past : List Entry) (e : Reply) (rs : List Reply) → AllTell given past rs → AllTell given (entry_of e ∷ past) rs
all_tell_after given past e [] all = tt
all_tell_after given past e (r ∷ rs) all = (record { id_is = all.0.id_is; out_is = all.0.out_is }, all_tell_after given past e rs all.1)

writes_replies : (given : Given) (past : List Entry) (bytes : List ℕ) (rs : List Reply)
    → Writes AnswerOf given past bytes → AllTell given past rs → Writes AnswerOf given (onto (map entry_of rs) past) (bytes ++ frames_of (map effect.Reply rs))
writes_replies given past bytes [] w all = subst (Writes AnswerOf given past) (sym (append-nil bytes)) w
writes_replies given past bytes (r ∷ rs) w all =
    subst (Writes AnswerOf given (onto (map entry_of rs) (entry_of r ∷ past))) (append_assoc bytes (reply_frame r) (frames_of (map effect.Reply rs)))
    (writes_replies given (entry_of r ∷ past) (bytes ++ reply_frame r) rs (bytes, reply_frame r, w, (r, tells_now given past r all.0, refl), refl) (all_tell_after given past r rs all.1))

-- an entry that writes nothing
writes_none : (given : Given) (past : List Entry) (e : Entry) (bytes : List ℕ) → EntryWrites AnswerOf given past e [] → Writes AnswerOf given past bytes → Writes AnswerOf given (e ∷ past) bytes
writes_none given past e bytes none w = (bytes, [], w, none, sym (append-nil bytes))

-- ---- the replies that come directly after a message

before_now : (past : List Entry) (n : ℕ) → before (entry.In n ∷ past) n ≡ past
before_now past n = rw (eq-eqb n n refl) refl

-- what is replied to the message itself
tells_itself : (given : Given) (past : List Entry) (n mark : ℕ) (k : Class) (h : How) (i : Option Id) (o : Out)
    → said given n ≡ k → i ≡ id_of k → ((marked : List Entry) → IsOut AnswerOf given past marked k h o) → TellsEver given (entry.In n ∷ past) (reply_by n mark h i o)
tells_itself given past n mark k h i o says under is = record {
  id_is = under ∙ sym (ap id_of says);
  out_is = λ marked. subst (λ (q : Class). IsOut AnswerOf given (before (entry.In n ∷ past) n) marked q h o) (sym says) (subst (λ (b : List Entry). IsOut AnswerOf given b marked k h o) (sym (before_now past n)) (is marked));
}

-- a request that waits and is ended
ended_tell : (given : Given) (past here : List Entry) (mark : ℕ) (h : How)
    → ((b marked : List Entry) (k : Class) → IsOut AnswerOf given b marked k h (out.Error (code_of h)))
    → (ws : List Waiting) → AllByRecursion (Asks given past) ws → AllTell given here (ended mark h ws)
ended_tell given past here mark h is [] all = tt
ended_tell given past here mark h is (w ∷ ws) all = (
  record {
    id_is = sym (ap id_of all.0.said_so);
    out_is = λ marked. is (before here w.job.message) marked (said given w.job.message);
  },
  ended_tell given past here (mark + 1) h is ws all.1,
)

meant_ask : (given : Given) (past : List Entry) (o : Option End) (ws : List Waiting) → AllByRecursion (Asks given past) ws → AllByRecursion (Asks given past) (meant_by o ws)
meant_ask given past None ws all = tt
meant_ask given past (Some e) ws all = all_left (Asks given past) (Asks given past) (λ (w : Waiting). is_meant e (class_of_waiting w)) ws (λ w a. a) all

how_ended_out : (given : Given) (k : Class) (b marked : List Entry) (q : Class) → IsOut AnswerOf given b marked q (how_ended k) (out.Error (code_of (how_ended k)))
how_ended_out given (cancels i) b marked q = refl
how_ended_out given _ b marked q = refl

accepted_tell : (given : Given) (core : Core) (mark : ℕ) (k : Class) → said given core.messages ≡ k → StandsFor given core
    → AllTell given (entry.In core.messages ∷ past_of core) (replies_if_accepted core mark k)
accepted_tell given core mark (initialises i) says s = (tells_itself given (past_of core) core.messages mark (initialises i) how.Answered (Some i) out.Capabilities says refl (λ marked. refl), tt)
accepted_tell given core mark (shuts_down i) says s = (tells_itself given (past_of core) core.messages mark (shuts_down i) how.Answered (Some i) out.Null says refl (λ marked. refl), tt)
accepted_tell given core mark k says s =
    ended_tell given (past_of core) (entry.In core.messages ∷ past_of core) mark (how_ended k) (how_ended_out given k) (meant_by (ends_by core k) core.pending)
    (meant_ask given (past_of core) (ends_by core k) core.pending s.asks)

by_tell : (given : Given) (core : Core) (mark : ℕ) (o : Option ℤ) (k : Class) → said given core.messages ≡ k → StandsFor given core → refusal given (past_of core) k ≡ o
    → AllTell given (entry.In core.messages ∷ past_of core) (replies_by core mark o k)
by_tell given core mark (Some code) k says s e =
    (tells_itself given (past_of core) core.messages mark k how.Refused (id_of k) (out.Error code) says refl (λ marked. (code, e, refl)), tt)
by_tell given core mark None k says s e = accepted_tell given core mark k says s

pub message_writes : (given : Given) (old new : Core) (k : Class) (effects : List Effect)
    → said given old.messages ≡ k → StandsFor given old → Takes old k new effects → WritesOn given old new effects
message_writes given old new k effects says s takes bytes w =
    let left = pending_after old k in
    let ends = ending_after old k in
    let rs = replies_of old k in
    let frames : frames_of effects ≡ frames_of (map effect.Reply rs) =
    ap frames_of takes.effects_are
    ∙ frames_of_replies rs (start_jobs (started_by old k) ++ finish ends left)
    (no_frames_of_jobs (started_by old k) (finish ends left) (no_frames_of_finish ends (is_nil left))) in
    let next = entry.In old.messages ∷ past_of old in
    subst (λ (past : List Entry). Writes AnswerOf given past (bytes ++ frames_of effects)) (sym (new_past old new k effects takes))
    (subst (λ (more : List ℕ). Writes AnswerOf given (onto (map entry_of rs) next) (bytes ++ more)) (sym frames)
    (writes_replies given next bytes rs (writes_none given (past_of old) (entry.In old.messages) bytes refl w)
    (by_tell given old (length old.journal + 1) (core_refusal old k) k says s (same_refusal given old k s))))

-- ---- the reply to a job that ended

-- what answers a job
abbrev pub IsJobsOut : Job → How → Out → Type 0
IsJobsOut job how.Answered o = (answer : Answer) × AnswerOf job.kind job.config job.headers job.path job.text answer × (o ≡ out.Answer answer)
IsJobsOut job how.Memory o = o ≡ out.Error out_of_memory
IsJobsOut job how.Refused o = ⊥
IsJobsOut job how.Cancelled o = ⊥
IsJobsOut job how.Modified o = ⊥

-- it rests on the job's own state
abbrev pub RestsOn : Job → ℕ → How → Type 0
RestsOn job mark how.Answered = mark ≡ job.mark
RestsOn job mark _ = Unit {0}

job_out : (given : Given) (past : List Entry) (w : Waiting) (mark : ℕ) (h : How) (o : Out) → Asks given past w → RestsOn w.job mark h → IsJobsOut w.job h o
    → IsOut AnswerOf given (before past w.job.message) (past_at past mark) (class_of_waiting w) h o
job_out given past w mark how.Answered o a rests is = (
  w.job.text,
  w.job.headers,
  is.0,
  a.over,
  subst (λ (n : ℕ). AreHeadersAt given (past_at past n) w.job.headers) (sym rests) a.headers,
  subst (λ (c : Settings). AnswerOf w.job.kind c w.job.headers w.job.path w.job.text is.0) a.config is.1,
  is.2,
)
job_out given past w mark how.Memory o a rests is = is
job_out given past w mark how.Refused o a rests is = absurd is
job_out given past w mark how.Cancelled o a rests is = absurd is
job_out given past w mark how.Modified o a rests is = absurd is

tells_job : (given : Given) (past : List Entry) (w : Waiting) (mark : ℕ) (h : How) (o : Out) → Asks given past w → RestsOn w.job mark h → IsJobsOut w.job h o
    → Tells AnswerOf given past w.job.message mark h (reply_by w.job.message mark h (Some w.id) o)
tells_job given past w mark h o a rests is = record {
  message = refl;
  marked = refl;
  how_so = refl;
  id_is = sym (ap id_of a.said_so);
  out_is = subst (λ (k : Class). IsOut AnswerOf given (before past w.job.message) (past_at past mark) k h o) (sym a.said_so) (job_out given past w mark h o a rests is);
}

reply_writes : (given : Given) (old new : Core) (worked : Job) (seen : List Dep) (mark : ℕ) (h : How) (o : Out) (effects : List Effect)
    → StandsFor given old → ((job : Job) → IsOver worked seen job → RestsOn job mark h × IsJobsOut job h o) → Replies old worked seen mark h o new effects → WritesOn given old new effects
reply_writes given old new worked seen mark h o effects s is r bytes w =
    let m = r.waiting.job.message in
    let reply = reply_by m mark h (Some r.waiting.id) o in
    let so = is r.waiting.job r.over in
    let asks : Asks given (past_of old) r.waiting = one_of (Asks given (past_of old)) old.pending r.waiting s.asks r.waits in
    let tells : Tells AnswerOf given (past_of old) m mark h reply = tells_job given (past_of old) r.waiting mark h o asks so.0 so.1 in
    let frames : frames_of effects ≡ reply_frame reply =
    ap frames_of r.effects_are ∙ ap (λ (more : List ℕ). reply_frame reply ++ more) (no_frames_of_finish old.ending (is_nil (left_after old m))) ∙ append-nil (reply_frame reply) in
    let here : past_of new ≡ entry.Reply m mark h ∷ past_of old = ap past_of r.new_is ∙ past_with old.journal (entry.Reply m mark h) in
    subst (λ (past : List Entry). Writes AnswerOf given past (bytes ++ frames_of effects)) (sym here)
    (bytes, frames_of effects, w, (reply, tells, frames), refl)

-- ---- a step that writes nothing

quiet_writes : (given : Given) (old new : Core) (effects : List Effect) → past_of new ≡ past_of old → frames_of effects ≡ [] → WritesOn given old new effects
quiet_writes given old new effects same quiet bytes w =
    let whole : bytes ++ frames_of effects ≡ bytes = ap (λ (more : List ℕ). bytes ++ more) quiet ∙ append-nil bytes in
    subst (λ (past : List Entry). Writes AnswerOf given past (bytes ++ frames_of effects)) (sym same) (subst (Writes AnswerOf given (past_of old)) (sym whole) w)

pub nothing_writes : (given : Given) (old new : Core) (effects : List Effect) → new ≡ old → effects ≡ [] → WritesOn given old new effects
nothing_writes given old new effects same none = quiet_writes given old new effects (ap past_of same) (ap frames_of none)

pub job_writes : (given : Given) (old new : Core) (worked : Job) (seen : List Dep) (mark : ℕ) (h : How) (o : Out) (effects : List Effect)
    → StandsFor given old → ((job : Job) → IsOver worked seen job → RestsOn job mark h × IsJobsOut job h o) → Completes old worked seen mark h o new effects → WritesOn given old new effects
job_writes given old new worked seen mark h o effects s is c =
    ⊎_elim (λ r. reply_writes given old new worked seen mark h o effects s is r) (λ q. nothing_writes given old new effects q.same q.none) c

pub need_writes : (given : Given) (old new : Core) (worked : Job) (seen : List Dep) (path : List ℕ) (effects : List Effect) → Lacks old worked seen path new effects → WritesOn given old new effects
need_writes given old new worked seen path effects c = ⊎_elim
    (λ r. by_known _ (StartsAgain old r.waiting.job new effects) (Awaits old r.waiting.job path new effects) (WritesOn given old new effects) r.so
    (λ a. quiet_writes given old new effects (ap past_of a.new_is) (ap frames_of a.effects_are))
    (λ e a. quiet_writes given old new effects (ap past_of a.new_is) (ap frames_of a.effects_are)))
    (λ q. nothing_writes given old new effects q.same q.none)
    c

pub load_writes : (given : Given) (old new : Core) (message : ℕ) (path : List ℕ) (read : Read) (effects : List Effect) → Loads old message path read new effects ⊎ IsLost old message new effects → WritesOn given old new effects
load_writes given old new message path read effects c = ⊎_elim
    (λ r bytes w.
    let whole : bytes ++ frames_of effects ≡ bytes = ap (λ (more : List ℕ). bytes ++ more) (ap frames_of r.effects_are) ∙ append-nil bytes in
    let here : past_of new ≡ entry.Load old.loads ∷ past_of old = ap past_of r.new_is ∙ past_with old.journal (entry.Load old.loads) in
    subst (λ (past : List Entry). Writes AnswerOf given past (bytes ++ frames_of effects)) (sym here)
    (subst (Writes AnswerOf given (entry.Load old.loads ∷ past_of old)) (sym whole) (writes_none given (past_of old) (entry.Load old.loads) bytes refl w)))
    (λ q. nothing_writes given old new effects q.same q.none)
    c

pub stop_writes : (given : Given) (old new : Core) (e : Ending) (effects : List Effect) → Stops old e new effects → WritesOn given old new effects
stop_writes given old new e effects stops =
    quiet_writes given old new effects (ap past_of stops.same) (ap frames_of stops.effects_are ∙ no_frames_of_finish (first_ending old.ending (status_of e)) (is_nil old.pending))

-- In a session that does each job before it takes the next message, none is pending where a message is received.
use Rattle.std.proofs.Common.{◌≡◌, ⊎_elim, ℕ, List, [], ◌∷◌, map, sym, ap, ◌∙◌, subst}
use Rattle.cl_rpc.specs.declared.out.Reply.{Reply}
use Rattle.cl_rpc.specs.declared.out.How.{How}
use Rattle.cl_rpc.specs.declared.out.Out.{Out}
use Rattle.cl_rpc.specs.Classes.{Class, class_of}
use Rattle.cl_query.specs.declared.job.Job.{Job}
use Rattle.cl_headers.specs.declared.dep.Dep.{Dep}
use Rattle.cl_history.specs.declared.entry.Entry.{Entry}
use Rattle.cl_history.specs.declared.entry.Entry.TheVariants as entry
use Rattle.cl_history.specs.Given.{Given}
use Rattle.cl_history.specs.History.{pending}
use Rattle.cl_history.specs.Legal.{IsSettled}
use Rattle.cl_core.specs.declared.core_state.Core.{Core}
use Rattle.cl_core.specs.declared.event.Event.{Event}
use Rattle.cl_core.specs.declared.event.Event.TheVariants as event
use Rattle.cl_core.specs.declared.event.Effect.{Effect}
use Rattle.cl_core.specs.Waiting.{number_of}
use Rattle.cl_core.specs.Deciding.{entry_of, replies_of}
use Rattle.cl_core.specs.Steps.{Takes, Completes, StartsAgain, Awaits, StepsOn, Steps, hears}
use Rattle.cl_core.specs.Standing.{IsReady, StandsFor, past_of}
use Rattle.cl_core.proofs.Onto.{onto}
use Rattle.cl_core.proofs.MessageStands.{new_past}
use Rattle.cl_core.proofs.JobStands.{past_with, by_known}
use Rattle.cl_core.proofs.Kept.{by_hearing}

settled_onto : (given : Given) (past : List Entry) (rs : List Reply) → IsSettled given past → IsSettled given (onto (map entry_of rs) past)
settled_onto given past [] s = s
settled_onto given past (r ∷ rs) s = settled_onto given (entry_of r ∷ past) rs s

message_settles : (given : Given) (old new : Core) (k : Class) (effects : List Effect)
    → StandsFor given old → old.pending ≡ [] → Takes old k new effects → IsSettled given (past_of old) → IsSettled given (past_of new)
message_settles given old new k effects stands none_waits takes s =
    let none : pending given (past_of old) ≡ [] = sym stands.waiting ∙ ap (map number_of) none_waits in
    subst (IsSettled given) (sym (new_past old new k effects takes)) (settled_onto given (entry.In old.messages ∷ past_of old) (replies_of old k) (none, s))

same_settles : (given : Given) (old new : Core) → past_of new ≡ past_of old → IsSettled given (past_of old) → IsSettled given (past_of new)
same_settles given old new same s = subst (IsSettled given) (sym same) s

job_settles : (given : Given) (old new : Core) (worked : Job) (seen : List Dep) (mark : ℕ) (h : How) (o : Out) (effects : List Effect)
    → Completes old worked seen mark h o new effects → IsSettled given (past_of old) → IsSettled given (past_of new)
job_settles given old new worked seen mark h o effects c s = ⊎_elim
    (λ r. subst (IsSettled given) (sym (ap past_of r.new_is ∙ past_with old.journal (entry.Reply r.waiting.job.message mark h))) s)
    (λ q. same_settles given old new (ap past_of q.same) s) c

settles_on : (given : Given) (old new : Core) (e : Event) (effects : List Effect)
    → StandsFor given old → IsReady old e → StepsOn old e new effects → IsSettled given (past_of old) → IsSettled given (past_of new)
settles_on given old new (event.Message p) effects s ready takes settled = message_settles given old new (class_of p) effects s ready takes settled
settles_on given old new (event.Loaded path read) effects s ready c settled = ⊎_elim
    (λ r. subst (IsSettled given) (sym (ap past_of r.new_is ∙ past_with old.journal (entry.Load old.loads))) settled)
    (λ q. same_settles given old new (ap past_of q.same) settled) c
settles_on given old new (event.Done done) effects s ready c settled = job_settles given old new done.job done.seen _ _ _ effects c settled
settles_on given old new (event.Need need) effects s ready c settled = ⊎_elim
    (λ r. by_known _ (StartsAgain old r.waiting.job new effects) (Awaits old r.waiting.job need.path new effects) (IsSettled given (past_of new)) r.so
    (λ a. same_settles given old new (ap past_of a.new_is) settled) (λ e a. same_settles given old new (ap past_of a.new_is) settled))
    (λ q. same_settles given old new (ap past_of q.same) settled) c
settles_on given old new (event.NoMemory job) effects s ready c settled = job_settles given old new job [] _ _ _ effects c settled
settles_on given old new (event.End e) effects s ready stops settled = same_settles given old new (ap past_of stops.same) settled

pub step_settles : (given : Given) (old new : Core) (e : Event) (effects : List Effect)
    → StandsFor given old → IsReady old e → Steps old e new effects → IsSettled given (past_of old) → IsSettled given (past_of new)
step_settles given old new e effects s ready steps settled = by_hearing (hears old e) _ _ (IsSettled given (past_of new)) steps
    (λ heard on. settles_on given old new e effects s ready on settled)
    (λ q. same_settles given old new (ap past_of q.0) settled)

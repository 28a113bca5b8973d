-- A session that is settled wherever a message is received ends no request early.
use Rattle.std.proofs.Common.{◌≡◌, ℕ, ℤ, List, [], ◌∷◌, filter, sym, subst}
use Rattle.std.specs.Prelude.{Option, Some, None}
use Rattle.cl_rpc.specs.declared.out.How.{How}
use Rattle.cl_rpc.specs.declared.out.How.TheVariants as how
use Rattle.cl_rpc.specs.Classes.{Class, initialises, shuts_down, queries, unknown, bad_params, invalid, opens, changes, closes, cancels, watched, exits, dropped}
use Rattle.cl_query.specs.AnswerOf.{NeedsOf}
use Rattle.cl_history.specs.declared.entry.Entry.{Entry}
use Rattle.cl_history.specs.declared.entry.Entry.TheVariants.{In, Load, Reply, Notify}
use Rattle.cl_history.specs.Given.{Given, said}
use Rattle.cl_history.specs.History.{End, ends, is_initialised, is_meant, pending, pending_meant, refusal, text_at}
use Rattle.cl_history.specs.Legal.{Due, all_as, due_by, due_to_accepted, how_ended, rest_of, owed, AllFollow, MayReply, IsSettled}
use Rattle.clsd.specs.Sessions.{IsInTime, AreInTime}

-- no reply that is due ends a request early
Mild : List Due → Type 0
Mild [] = Unit {0}
Mild (due ∷ more) = IsInTime due.1 × Mild more

-- where none is pending, none is ended
none_ended : (given : Given) (past : List Entry) (h : How) (e : Option End) → pending given past ≡ [] → Mild (all_as h (pending_meant given past e))
unfolding Mild
none_ended given past h None none = tt
none_ended given past h (Some e) none = subst (λ (ms : List ℕ). Mild (all_as h (filter (λ n. is_meant e (said given n)) ms))) (sym none) tt

mild_accepted : (given : Given) (past : List Entry) (n : ℕ) (k : Class) → pending given past ≡ [] → Mild (due_to_accepted given past n k)
unfolding Mild
mild_accepted given past n (initialises i) none = (tt, tt)
mild_accepted given past n (shuts_down i) none = (tt, tt)
mild_accepted given past n (queries i query path) none = none_ended given past (how_ended (queries i query path)) (ends (is_initialised given past) (text_at given past) (queries i query path)) none
mild_accepted given past n (unknown i) none = none_ended given past (how_ended (unknown i)) (ends (is_initialised given past) (text_at given past) (unknown i)) none
mild_accepted given past n (bad_params i b) none = none_ended given past (how_ended (bad_params i b)) (ends (is_initialised given past) (text_at given past) (bad_params i b)) none
mild_accepted given past n (invalid i code) none = none_ended given past (how_ended (invalid i code)) (ends (is_initialised given past) (text_at given past) (invalid i code)) none
mild_accepted given past n (opens path version text) none = none_ended given past (how_ended (opens path version text)) (ends (is_initialised given past) (text_at given past) (opens path version text)) none
mild_accepted given past n (changes path version text) none = none_ended given past (how_ended (changes path version text)) (ends (is_initialised given past) (text_at given past) (changes path version text)) none
mild_accepted given past n (closes path) none = none_ended given past (how_ended (closes path)) (ends (is_initialised given past) (text_at given past) (closes path)) none
mild_accepted given past n (cancels i) none = none_ended given past (how_ended (cancels i)) (ends (is_initialised given past) (text_at given past) (cancels i)) none
mild_accepted given past n (watched paths) none = none_ended given past (how_ended (watched paths)) (ends (is_initialised given past) (text_at given past) (watched paths)) none
mild_accepted given past n exits none = none_ended given past (how_ended exits) (ends (is_initialised given past) (text_at given past) exits) none
mild_accepted given past n dropped none = none_ended given past (how_ended dropped) (ends (is_initialised given past) (text_at given past) dropped) none

mild_by : (given : Given) (past : List Entry) (n : ℕ) (code : Option ℤ) (k : Class) → pending given past ≡ [] → Mild (due_by given past n code k)
unfolding Mild
mild_by given past n (Some code) k none = (tt, tt)
mild_by given past n None k none = mild_accepted given past n k none

mild_rest : (dues : List Due) → Mild dues → Mild (rest_of dues)
unfolding Mild
mild_rest [] m = tt
mild_rest (due ∷ more) m = m.1

mild_owed : (given : Given) (past : List Entry) → IsSettled given past → Mild (owed given past)
unfolding Mild
mild_owed given [] s = tt
mild_owed given (In n ∷ past) s = mild_by given past n (refusal given past (said given n)) (said given n) s.0
mild_owed given (Load n ∷ past) s = tt
mild_owed given (Reply m mark h ∷ past) s = mild_rest (owed given past) (mild_owed given past s)
mild_owed given (Notify m mark ∷ past) s = tt

in_time_reply : (given : Given) (past : List Entry) (dues : List Due) (m mark : ℕ) (h : How) → MayReply given past dues m mark h → Mild dues → IsInTime h
unfolding Mild
in_time_reply given past [] m mark how.Answered may mild = tt
in_time_reply given past [] m mark how.Cancelled may mild = may
in_time_reply given past [] m mark how.Modified may mild = may
in_time_reply given past [] m mark how.Refused may mild = tt
in_time_reply given past [] m mark how.Memory may mild = tt
in_time_reply given past (due ∷ more) m mark h may mild = subst IsInTime (sym may.1) mild.0

pub all_in_time : (given : Given) (past : List Entry) → AllFollow NeedsOf given past → IsSettled given past → AreInTime past
all_in_time given [] f s = tt
all_in_time given (In n ∷ past) f s = all_in_time given past f.1 s.1
all_in_time given (Load n ∷ past) f s = all_in_time given past f.1 s
all_in_time given (Reply m mark h ∷ past) f s = (in_time_reply given past (owed given past) m mark h f.0 (mild_owed given past s), all_in_time given past f.1 s)
all_in_time given (Notify m mark ∷ past) f s = absurd f.0

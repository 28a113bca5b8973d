-- The replies that are due follow.
use Rattle.std.proofs.Common.{◌≡◌, ℕ, ℤ, ◌+◌, List, [], ◌∷◌, map, length, ap, ◌∙◌, refl, arith, Some, None, Option}
use Rattle.cl_rpc.specs.declared.out.How.{How}
use Rattle.cl_rpc.specs.declared.out.Reply.{Reply}
use Rattle.cl_rpc.specs.Classes.{Class, initialises, shuts_down}
use Rattle.cl_query.specs.AnswerOf.{NeedsOf}
use Rattle.cl_history.specs.declared.entry.Entry.{Entry}
use Rattle.cl_history.specs.Given.{Given}
use Rattle.cl_history.specs.Legal.{MayReply, AllFollow, how_ended, owed, rest_of}
use Rattle.cl_core.specs.declared.core_state.Core.{Core}
use Rattle.cl_core.specs.declared.waiting.Waiting.{Waiting}
use Rattle.cl_core.specs.Deciding.{core_refusal, entry_of, ended, ends_by, meant_by, replies_if_accepted, replies_by, replies_of}
use Rattle.cl_core.proofs.Onto.{onto}
use Rattle.cl_core.proofs.Dues.{due_of}

-- each mark is one more than that before it
abbrev pub MarksFrom : ℕ → List Reply → Type 0
MarksFrom at [] = Unit {0}
MarksFrom at (r ∷ rs) = (r.mark ≡ at) × MarksFrom (at + 1) rs

marks_ended : (mark : ℕ) (h : How) (ws : List Waiting) → MarksFrom mark (ended mark h ws)
marks_ended mark h [] = tt
marks_ended mark h (w ∷ ws) = (refl, marks_ended (mark + 1) h ws)

marks_accepted : (core : Core) (mark : ℕ) (k : Class) → MarksFrom mark (replies_if_accepted core mark k)
marks_accepted core mark (initialises i) = (refl, tt)
marks_accepted core mark (shuts_down i) = (refl, tt)
marks_accepted core mark k = marks_ended mark (how_ended k) (meant_by (ends_by core k) core.pending)

marks_by : (core : Core) (mark : ℕ) (o : Option ℤ) (k : Class) → MarksFrom mark (replies_by core mark o k)
marks_by core mark (Some code) k = (refl, tt)
marks_by core mark None k = marks_accepted core mark k

pub marks_of : (core : Core) (k : Class) → MarksFrom (length core.journal + 1) (replies_of core k)
marks_of core k = marks_by core (length core.journal + 1) (core_refusal core k) k

-- the replies that are due, each at its mark, may follow
pub replies_follow : (given : Given) (rs : List Reply) (past : List Entry) (at : ℕ) → owed given past ≡ map due_of rs → at ≡ length past → MarksFrom at rs
    → AllFollow NeedsOf given past → AllFollow NeedsOf given (onto (map entry_of rs) past)
replies_follow given [] past at is here marks all = all
replies_follow given (r ∷ rs) past at is here marks all =
    let next : MayReply given past (owed given past) r.message r.mark r.how = rw is (refl, refl, marks.0 ∙ here) in
    let there : at + 1 ≡ length (entry_of r ∷ past) = omega arith in
    replies_follow given rs (entry_of r ∷ past) (at + 1) (ap rest_of is) there marks.1 (next, all)

-- and then none is due
pub none_left_due : (given : Given) (rs : List Reply) (past : List Entry) → owed given past ≡ map due_of rs → owed given (onto (map entry_of rs) past) ≡ []
none_left_due given [] past is = is
none_left_due given (r ∷ rs) past is = none_left_due given rs (entry_of r ∷ past) (ap rest_of is)

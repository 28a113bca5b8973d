use Rattle.cl_layout.specs.Tables.{IsSound}
use Rattle.cl_layout.proofs.work.Work.tag_layout.Given as goal

abbrev pub invariant-loop-turn : goal.invariant-loop-turn
invariant-loop-turn g l = IsSound (g.M.Members.content l.members) l.fn.self → IsSound (g.M.Members.content l.members) l.self

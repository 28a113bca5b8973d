use Rattle.std.proofs.Common.{◌-◌, length}
use Rattle.cl_parse.proofs.Ending.{Walked}
use Rattle.cl_parse.proofs.whole.last_ends.Given as goal

abbrev pub invariant-loop-at : goal.invariant-loop-at
invariant-loop-at l = record { walked : Walked l.tokens l.pairs l.at l.ended }

abbrev pub decreases-loop-at : goal.decreases-loop-at
decreases-loop-at l = length l.tokens - l.at

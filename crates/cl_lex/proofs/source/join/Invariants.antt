use Rattle.std.proofs.Common.{length, ◌-◌}
use Rattle.cl_lex.proofs.Joining.{IsJoining}
use Rattle.cl_lex.proofs.source.join.Given as goal

abbrev pub invariant-loop-at : goal.invariant-loop-at
invariant-loop-at l = IsJoining l.text l.at l.joined.values.items l.joined.starts.items

abbrev pub decreases-loop-at : goal.decreases-loop-at
decreases-loop-at l = length l.text - l.at

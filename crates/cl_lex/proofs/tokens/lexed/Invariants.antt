use Rattle.std.proofs.Common.{◌-◌, length}
use Rattle.cl_lex.proofs.Lexed.{Reached}
use Rattle.cl_lex.proofs.tokens.lexed.Given as goal

abbrev pub invariant-loop-at : goal.invariant-loop-at
invariant-loop-at l = Reached l.source l.lexed l.before l.at

abbrev pub decreases-loop-at : goal.decreases-loop-at
decreases-loop-at l = length l.chars - l.at

use Rattle.cl_lex.proofs.Unique.{one_lexed}
use Rattle.cl_lex.proofs.laws.one_lexing.Goals as goal

pub returns : goal.returns
returns c = one_lexed

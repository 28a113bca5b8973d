use Rattle.cl_lex.proofs.Exists.{some_lexed}
use Rattle.cl_lex.proofs.laws.some_lexing.Goals as goal

pub returns : goal.returns
returns c = some_lexed

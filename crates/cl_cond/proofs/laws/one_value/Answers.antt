use Rattle.cl_cond.specs.Words.{words_from}
use Rattle.cl_cond.proofs.Deciding.{one_value}
use Rattle.cl_cond.proofs.laws.one_value.Goals as goal

pub returns : goal.returns
returns c = λ tokens. one_value (words_from 0 tokens)

use Rattle.cl_const.proofs.Constants.{by_grammar}
use Rattle.cl_const.proofs.laws.integers_by_grammar.Goals as goal

pub returns : goal.returns
returns c = by_grammar

use Rattle.cl_query.specs.AnswerOf.{NeedsOf}
use Rattle.cl_history.proofs.Accepted.{in_standard_words}
use Rattle.cl_core.proofs.laws.standard_words.Goals as goal

pub returns : goal.returns
returns c given past legal = in_standard_words NeedsOf given past legal

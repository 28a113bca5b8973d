use Rattle.cl_headers.proofs.Search.{one_answer}
use Rattle.cl_headers.proofs.laws.one_resolution.Goals as goal

pub returns : goal.returns
returns c = one_answer

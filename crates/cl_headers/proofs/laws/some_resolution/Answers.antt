use Rattle.cl_headers.proofs.Search.{some_answer}
use Rattle.cl_headers.proofs.laws.some_resolution.Goals as goal

pub returns : goal.returns
returns c = λ known paths. let some = some_answer known paths in (some.asked, some.resolved, some.resolves)

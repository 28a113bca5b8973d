use Rattle.cl_scope.proofs.Resume.{resumes_all}
use Rattle.cl_scope.proofs.laws.resumes.Goals as goal

pub returns : goal.returns
returns c = λ g h front back e. resumes_all g h front back e

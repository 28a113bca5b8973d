use Rattle.cl_scope.proofs.Keeping.{stays, counts}
use Rattle.cl_scope.proofs.laws.keeps.Goals as goal

pub returns-clause-decl : goal.returns-clause-decl
returns-clause-decl c = λ g made n h. stays g made n h

pub returns-clause-count : goal.returns-clause-count
returns-clause-count c = λ g old more. counts g old more

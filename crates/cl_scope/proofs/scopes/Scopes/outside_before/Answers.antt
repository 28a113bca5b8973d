use Rattle.std.proofs.Common.{◌∙◌}
use Rattle.cl_scope.specs.Steps.{unit_of}
use Rattle.cl_scope.proofs.Before.{outside_same}
use Rattle.cl_scope.proofs.scopes.Scopes.outside_before.Goals as goal

pub returns : goal.returns
returns g c = λ space called h. c.in_ok-no.ensures ∙ outside_same (unit_of c.args.self.now) c.args.decl.now c.in-Some.space c.space.result c.in-Some-name.name c.in-Some.ensures c.in-Some-name.is c.space.ensures space called h

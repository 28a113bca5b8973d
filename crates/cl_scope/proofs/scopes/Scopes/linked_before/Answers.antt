use Rattle.std.proofs.Common.{◌∙◌}
use Rattle.cl_scope.specs.Steps.{unit_of}
use Rattle.cl_scope.proofs.Before.{linked_same}
use Rattle.cl_scope.proofs.scopes.Scopes.linked_before.Goals as goal

pub returns : goal.returns
returns g c = λ called linkage h. c.in_ok-no.ensures ∙ linked_same (unit_of c.args.self.now) c.args.decl.now c.in-Some.name c.in-Some.is called linkage h

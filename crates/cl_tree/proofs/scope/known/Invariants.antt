use Rattle.std.proofs.Common.{◌≡◌, drop}
use Rattle.cl_tree.specs.Scopes.{known}
use Rattle.cl_tree.proofs.scope.known.Given as goal

abbrev pub invariant-loop-change : goal.invariant-loop-change
invariant-loop-change l = known l.tokens l.changes l.before l.name ≡ known l.tokens (drop l.change-index l.changes) l.typed l.name

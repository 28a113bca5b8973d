use Rattle.std.proofs.Common.{◌≡◌, List, ℕ, drop}
use Rattle.cl_tree.specs.Scopes.{known}
use Rattle.cl_tree.specs.Sets.{has}
use Rattle.cl_tree.proofs.scope.learned.Given as goal

abbrev pub invariant-loop-change : goal.invariant-loop-change
invariant-loop-change l = (name : List ℕ) → known l.tokens l.changes (has l.fn.names name) name ≡ known l.tokens (drop l.change-index l.changes) (has l.after name) name

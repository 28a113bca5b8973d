use Rattle.std.proofs.Common.{◌≡◌}
use Rattle.cl_expr.proofs.Scans.{Before}
use Rattle.cl_expr.proofs.scan.has_place.Given as goal

abbrev pub invariant-loop-one : goal.invariant-loop-one
invariant-loop-one l = Before (λ x. x ≡ l.place) l.list l.one-index

use Rattle.cl_expr.specs.code.Parses.{GoesWith}
use Rattle.cl_expr.proofs.Scans.{Before}
use Rattle.cl_expr.proofs.scan.goer.Given as goal

abbrev pub invariant-loop-start : goal.invariant-loop-start
invariant-loop-start l = Before (λ x. GoesWith x l.kind l.class) l.all l.start-index

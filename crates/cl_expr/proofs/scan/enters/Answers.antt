use Rattle.std.proofs.Common.{arith}
use Rattle.cl_expr.proofs.Numbers.{edge_enters, edge_nowhere}
use Rattle.cl_expr.proofs.scan.enters.Goals as goal

pub returns-clause-yes : goal.returns-clause-yes
returns-clause-yes c = λ t. edge_enters c.args.place c.args.class (λ e. grind (arith, c.edge_number-number.ensures, e, t))

pub returns-clause-no : goal.returns-clause-no
returns-clause-no c = λ t n. edge_nowhere c.args.place c.args.class (grind (arith, c.edge_number-number.ensures, t)) n

use Rattle.std.proofs.Common.{ap}
use Rattle.std.specs.Prelude.{Some}
use Rattle.cl_expr.specs.declared.expression.Parsed.{Parsed}
use Rattle.cl_expr.proofs.Checks.{some_is, none_not}
use Rattle.cl_expr.proofs.expression.whole_tree.Goals as goal

pub returns-clause-found : goal.returns-clause-found
returns-clause-found c = (c.in-Some.reading.scope, rw (c.in-Some.is, c.new.ensures) at c.in_ok-reading.ensures.found)

pub returns-clause-only : goal.returns-clause-only
returns-clause-only c = λ t d. ap Some (ap (λ (r : Parsed). r.tree) (some_is ((rw (c.in-Some.is, c.new.ensures) at c.in_ok-reading.ensures.only) t d.0 d.1)))

pub returns-in_default-clause-only : goal.returns-in_default-clause-only
returns-in_default-clause-only c = λ t d. absurd (none_not ((rw (c.in_default.is, c.new.ensures) at c.in_ok-reading.ensures.only) t d.0 d.1))

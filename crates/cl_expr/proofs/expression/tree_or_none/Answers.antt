use Rattle.cl_expr.proofs.Deciding.{tree_or_none, external_or_none}
use Rattle.cl_expr.proofs.expression.tree_or_none.Goals as goal

pub returns-clause-one : goal.returns-clause-one
returns-clause-one c = λ g ts s at. tree_or_none g ts s at

pub returns-clause-external : goal.returns-clause-external
returns-clause-external c = λ ts s at. external_or_none ts s at

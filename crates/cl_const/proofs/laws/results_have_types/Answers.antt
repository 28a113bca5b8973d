use Rattle.cl_const.proofs.Types.{infix_type, prefix_type}
use Rattle.cl_const.proofs.laws.results_have_types.Goals as goal

pub returns-clause-prefix : goal.returns-clause-prefix
returns-clause-prefix c = prefix_type

pub returns-clause-infix : goal.returns-clause-infix
returns-clause-infix c = infix_type

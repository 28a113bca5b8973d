use Rattle.cl_macro.proofs.laws.plain_run.Goals as goal
use Rattle.cl_macro.proofs.Plain.{plain_run}

pub returns : goal.returns
returns c = λ rules_at events run all h e. plain_run rules_at events run all h e

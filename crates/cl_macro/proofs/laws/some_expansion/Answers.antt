use Rattle.cl_macro.proofs.laws.some_expansion.Goals as goal
use Rattle.cl_macro.proofs.Plain.{some_expanded}

pub returns : goal.returns
returns c = λ rules_at events run. some_expanded rules_at events run

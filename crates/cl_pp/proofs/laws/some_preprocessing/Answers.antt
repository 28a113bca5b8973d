use Rattle.cl_pp.proofs.Existing.{some_preprocessed}
use Rattle.cl_pp.proofs.laws.some_preprocessing.Goals as goal

pub returns : goal.returns
returns c = some_preprocessed

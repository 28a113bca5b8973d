use Rattle.cl_pp.proofs.Unique.{one_preprocessed}
use Rattle.cl_pp.proofs.laws.one_preprocessing.Goals as goal

pub returns : goal.returns
returns c = one_preprocessed

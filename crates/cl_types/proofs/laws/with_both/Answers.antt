use Rattle.cl_types.proofs.CompositeLemmas.{composite_fits}
use Rattle.cl_types.proofs.laws.with_both.Goals as goal

pub returns : goal.returns
returns c = composite_fits

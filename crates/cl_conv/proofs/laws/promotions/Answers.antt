use Rattle.cl_conv.proofs.ConversionLemmas.{promote_itself}
use Rattle.cl_conv.proofs.laws.promotions.Goals as goal

pub returns : goal.returns
returns c = promote_itself

use Rattle.cl_conv.proofs.ConversionLemmas.{usual_either, usual_listed}
use Rattle.cl_conv.proofs.laws.usual_conversions.Goals as goal

pub returns : goal.returns
returns c = record { either_way = usual_either; listed = usual_listed }

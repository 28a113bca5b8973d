use Rattle.cl_define.specs.Predefined.{reserved, is_reserved}
use Rattle.cl_define.proofs.start.is_reserved.Goals as goal

pub returns : goal.returns
unfolding reserved is_reserved
returns c = c.is_among.ensures

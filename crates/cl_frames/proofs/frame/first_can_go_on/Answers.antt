use Rattle.cl_frames.proofs.GoesOn.{first_goes}
use Rattle.cl_frames.proofs.frame.first_can_go_on.Goals as goal

pub returns : goal.returns
returns c = λ xs e. let r = first_goes xs e in (r.more, r.body, r.count, r.is)

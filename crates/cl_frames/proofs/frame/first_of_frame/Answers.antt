use Rattle.cl_frames.proofs.Made.{made_whole}
use Rattle.cl_frames.proofs.frame.first_of_frame.Goals as goal

pub returns : goal.returns
returns c = made_whole

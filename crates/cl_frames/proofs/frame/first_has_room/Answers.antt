use Rattle.cl_frames.proofs.Stable.{whole_counts}
use Rattle.cl_frames.proofs.frame.first_has_room.Goals as goal

pub returns-clause-room : goal.returns-clause-room
returns-clause-room c = λ xs body n e. (whole_counts xs body n e).0

pub returns-clause-more : goal.returns-clause-more
returns-clause-more c = λ xs body n e. (whole_counts xs body n e).1

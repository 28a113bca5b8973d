use Rattle.cl_frames.proofs.Stable.{whole_stays, wrong_stays, cut_front}
use Rattle.cl_frames.proofs.frame.first_is_stable.Goals as goal

pub returns-clause-whole : goal.returns-clause-whole
returns-clause-whole c = whole_stays

pub returns-clause-wrong : goal.returns-clause-wrong
returns-clause-wrong c = wrong_stays

pub returns-clause-cut : goal.returns-clause-cut
returns-clause-cut c = cut_front

use Rattle.cl_frames.proofs.SessionLemmas.{one_split, some_split}
use Rattle.cl_frames.proofs.sessions.session_splits_once.Goals as goal

pub returns-clause-one : goal.returns-clause-one
returns-clause-one c = one_split

pub returns-clause-some : goal.returns-clause-some
returns-clause-some c = some_split

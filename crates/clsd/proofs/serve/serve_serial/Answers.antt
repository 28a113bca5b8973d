use Rattle.clsd.proofs.Going.{never_began}
use Rattle.clsd.proofs.serve.serve_serial.Goals as goal

pub returns-in-Err-clause-session : goal.returns-in-Err-clause-session
returns-in-Err-clause-session g c config bytes is told empty =
    rw c.outcome-in-Err.ensures.ended.0 (rw c.outcome-in-Err.ensures.ended.1 (rw c.outcome-in-Err.ensures.journal (rw c.new-in-Err.ensures (never_began config bytes _ _ _ _ told empty))))

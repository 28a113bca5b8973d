use Rattle.std.proofs.Common.{inr}
use Rattle.clsd.proofs.Complete.{completes}
use Rattle.clsd.proofs.Going.{never_began}
use Rattle.clsd.proofs.serve.serve.Goals as goal

pub returns-in-Err-clause-session : goal.returns-in-Err-clause-session
returns-in-Err-clause-session g c bytes told empty =
    rw c.outcome-in-Err.ensures.ended.0 (rw c.outcome-in-Err.ensures.ended.1 (rw c.outcome-in-Err.ensures.journal (rw c.new.ensures (never_began c.args.config.now bytes _ _ _ _ told empty))))

pub returns-in-Ok-clause-session : goal.returns-in-Ok-clause-session
returns-in-Ok-clause-session g c bytes told empty =
    let session = c.run-ended.ensures.session c.args.config.now bytes c.in-Ok.ensures.stands told empty in
    (session.0, session.1, rw c.outcome.ensures.ended.0 (rw c.outcome.ensures.ended.1 (rw c.outcome.ensures.journal (rw c.into_journal.ensures session.2))))

pub returns-in-Ok-clause-complete : goal.returns-in-Ok-clause-complete
returns-in-Ok-clause-complete g c bytes bodies rest told empty splits still quiet =
    rw c.outcome.ensures.ended.0
    (completes c.args.config.now bytes _ _ _ _ _ _ bodies rest (c.run-ended.ensures.session c.args.config.now bytes c.in-Ok.ensures.stands told empty).2.session splits
    (λ is. still (c.run-ended.ensures.source.rose is)) (λ is. quiet (c.run-ended.ensures.sink.rose is)))

pub returns-in-Err-clause-complete : goal.returns-in-Err-clause-complete
returns-in-Err-clause-complete g c bytes bodies rest told empty splits still quiet = inr (inr c.outcome-in-Err.ensures.ended.0)

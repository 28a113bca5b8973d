use Rattle.std.proofs.Common.{refl}
use Rattle.cl_frames.proofs.FrameLemmas.{reads_body, reads_short, reads_wrong}
use Rattle.cl_frames.proofs.frame.next_frame.Goals as goal

pub returns-in-Whole-clause-reads : goal.returns-in-Whole-clause-reads
returns-in-Whole-clause-reads g c =
    λ bytes e. reads_body _ _ _ _ _ _ _ _ _ bytes _ refl c.in-Whole.ensures.told c.read_body.ensures.told e

pub returns-in-Short-clause-reads : goal.returns-in-Short-clause-reads
returns-in-Short-clause-reads g c = λ bytes e. reads_short _ _ _ _ bytes c.in-Short.ensures.told e

pub returns-in-Wrong-clause-reads : goal.returns-in-Wrong-clause-reads
returns-in-Wrong-clause-reads g c = λ bytes e. reads_wrong _ _ _ _ bytes c.in-Wrong.ensures.told e

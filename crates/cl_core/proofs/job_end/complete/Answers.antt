use Rattle.std.proofs.Common.{refl, inr}
use Rattle.cl_core.proofs.job_end.complete.Goals as goal

pub returns-in-None-clause-ok : goal.returns-in-None-clause-ok
returns-in-None-clause-ok c = inr (record { not_out = c.in-None.ensures.out refl; same = refl; none = c.new.ensures })

use Rattle.std.proofs.Common.{None, subst}
use Rattle.cl_headers.specs.Resolving.{known_of}
use Rattle.cl_pp.specs.Resuming.{Agree}
use Rattle.cl_query.proofs.kept.work_on.Goals as goal

pub returns-then-agrees-clause-agrees : goal.returns-then-agrees-clause-agrees
returns-then-agrees-clause-agrees c = subst (Agree (known_of c.args.job.now.headers)) c.asked.ensures (c.agrees.ensures.0 c.if-agrees.true)

pub returns-clause-begun : goal.returns-clause-begun
returns-clause-begun c = record {
  start = c.in_ok-start.start;
  first = c.in_ok-start.ensures;
  waits = c.in_ok-work.ensures.waits (λ name. None) (λ name. None) c.args.job.now.config.includes;
}

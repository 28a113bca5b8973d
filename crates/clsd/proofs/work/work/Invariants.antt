use Rattle.std.proofs.Common.{ℕ, List}
use Rattle.cl_core.specs.Standing.{WorksOn, reads_taken}
use Rattle.clsd.specs.Serving.{Making, TookReads, Works}
use Rattle.cl_query.specs.Keeping.{IsKept}
use Rattle.clsd.proofs.work.work.Given as goal

abbrev pub invariant-loop-count : goal.invariant-loop-count
invariant-loop-count g l = record {
  kept : IsKept l.kept;
  works : WorksOn l.fn.core l.fn.job → WorksOn l.core l.job;
  reads : Making (g.H.HeaderSource.reads l.fn.headers) (g.H.HeaderSource.reads l.headers) (g.H.HeaderSource.faults l.fn.headers) (g.H.HeaderSource.faults l.headers) (reads_taken l.fn.core)
      (λ given made. (held : List ℕ) → Works given l.fn.core l.fn.job held → Works given l.core l.job held × TookReads l.fn.core l.core made);
}

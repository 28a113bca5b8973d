use Rattle.std.proofs.Common.{drop}
use Rattle.std.specs.Prelude.{◌↔◌}
use Rattle.cl_query.specs.Seen.{Agrees}
use Rattle.cl_query.proofs.seen.agrees.Given as goal

abbrev pub invariant-loop-dep : goal.invariant-loop-dep
invariant-loop-dep l = Agrees l.headers l.seen ↔ Agrees l.headers (drop l.dep-index l.seen)

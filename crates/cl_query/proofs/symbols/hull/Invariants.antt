use Rattle.std.proofs.Common.{◌≡◌, ◌-◌, length}
use Rattle.std.specs.Prelude.{slice_range}
use Rattle.cl_query.specs.Symbols.{greatest, least}
use Rattle.cl_query.proofs.symbols.hull.Given as goal

abbrev pub invariant-loop-at : goal.invariant-loop-at
invariant-loop-at l = record {
  least : least l.least (slice_range l.tokens l.at l.to) ≡ least l.end (slice_range l.tokens l.from l.to);
  greatest : greatest l.greatest (slice_range l.tokens l.at l.to) ≡ greatest 0 (slice_range l.tokens l.from l.to);
}

abbrev pub decreases-loop-at : goal.decreases-loop-at
decreases-loop-at l = length l.tokens - l.at

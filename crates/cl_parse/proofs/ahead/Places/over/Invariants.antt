use Rattle.std.proofs.Common.{◌≡◌, length}
use Rattle.cl_parse.specs.code.Ahead.{Finds}
use Rattle.cl_parse.proofs.ahead.Places.over.Given as goal

abbrev pub invariant-loop-at : goal.invariant-loop-at
invariant-loop-at l = record {
  upto : l.places.upto ≡ length l.tokens;
  finds : Finds l.places l.tokens l.from l.at;
}

use Rattle.std.proofs.Common.{◌≡◌, ℕ, ◌<◌, ◌≤◌, ◌-◌, true, length}
use Rattle.cl_lex.specs.Spelling.{goes_on_number}
use Rattle.cl_lex.proofs.scan.number_end.Given as goal

abbrev pub invariant-loop-at : goal.invariant-loop-at
invariant-loop-at l = record {
  low : l.from ≤ l.at;
  high : l.at ≤ length l.chars;
  all : (i : ℕ) → l.from ≤ i → i < l.at → goes_on_number l.chars i ≡ true;
}

abbrev pub decreases-loop-at : goal.decreases-loop-at
decreases-loop-at l = length l.chars - l.at

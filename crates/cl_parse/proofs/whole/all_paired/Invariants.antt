use Rattle.std.proofs.Common.{◌≡◌, ◌<◌, ◌≤◌, ◌-◌, ℕ, false, length}
use Rattle.cl_parse.specs.Whole.{is_alone}
use Rattle.cl_parse.proofs.whole.all_paired.Given as goal

abbrev pub invariant-loop-at : goal.invariant-loop-at
invariant-loop-at l = record {
  within : l.at ≤ length l.tokens;
  before : (i : ℕ) → i < l.at → is_alone l.tokens l.pairs i ≡ false;
}

abbrev pub decreases-loop-at : goal.decreases-loop-at
decreases-loop-at l = length l.tokens - l.at

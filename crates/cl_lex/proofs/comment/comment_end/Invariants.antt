use Rattle.std.proofs.Common.{◌≡◌, ◌≢◌, ◌+◌, ◌-◌, ◌<◌, ◌≤◌, ℕ, length, slice_index}
use Rattle.cl_lex.proofs.comment.comment_end.Given as goal

abbrev pub invariant-loop-star : goal.invariant-loop-star
invariant-loop-star l = record {
  low : l.from ≤ l.at;
  high : l.at ≤ length l.chars;
  none : (i : ℕ) → l.from ≤ i → i < l.at → slice_index l.chars i ≡ 42 → slice_index l.chars (i + 1) ≢ 47;
}

abbrev pub decreases-loop-star : goal.decreases-loop-star
decreases-loop-star l = length l.chars - l.at

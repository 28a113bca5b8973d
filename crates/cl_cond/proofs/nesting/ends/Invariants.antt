use Rattle.std.proofs.Common.{◌≡◌, ◌≤◌, ◌+◌, ℕ, drop, length, nat_lt}
use Rattle.std.specs.Prelude.{reverse}
use Rattle.cl_cond.specs.Sections.{has_end, parts}
use Rattle.cl_cond.specs.code.Nesting.{ends_of}
use Rattle.cl_cond.proofs.nesting.ends.Given as goal

abbrev pub invariant-loop-at : goal.invariant-loop-at
invariant-loop-at l = record {
  within : l.at + l.spare ≤ length l.lines;
  ends : reverse l.ends ≡ ends_of (parts (drop l.at l.lines));
  spare : (n : ℕ) → has_end n (parts (drop l.at l.lines)) ≡ nat_lt n l.spare;
}

abbrev pub decreases-loop-at : goal.decreases-loop-at
decreases-loop-at l = l.at

use Rattle.std.proofs.Common.{◌≡◌, ◌≤◌, ◌-◌, ◌+◌, drop, length}
use Rattle.cl_literals.specs.Faults.{strings_len}
use Rattle.cl_literals.proofs.finding.strings_len.Given as goal

abbrev pub invariant-loop-count : goal.invariant-loop-count
invariant-loop-count l = record {
  within : l.count ≤ length l.tokens;
  rest : strings_len l.tokens ≡ l.count + strings_len (drop l.count l.tokens);
}

abbrev pub decreases-loop-count : goal.decreases-loop-count
decreases-loop-count l = length l.tokens - l.count

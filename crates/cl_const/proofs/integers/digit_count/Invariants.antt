use Rattle.std.proofs.Common.{◌≡◌, ◌≤◌, ◌-◌, ◌+◌, drop, length}
use Rattle.std.specs.List.{prefix_len}
use Rattle.cl_const.specs.Integers.{is_digit}
use Rattle.cl_const.proofs.integers.digit_count.Given as goal

abbrev pub invariant-loop-count : goal.invariant-loop-count
invariant-loop-count l = record {
  within : l.count ≤ length l.text;
  rest : prefix_len (is_digit l.base) l.text ≡ l.count + prefix_len (is_digit l.base) (drop l.count l.text);
}

abbrev pub decreases-loop-count : goal.decreases-loop-count
decreases-loop-count l = length l.text - l.count

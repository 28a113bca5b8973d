use Rattle.std.proofs.Common.{◌≡◌, ◌≤◌, length}
use Rattle.cl_pp.specs.code.Numbers.{is_number_of}
use Rattle.cl_pp.proofs.line_number.is_number.Given as goal

abbrev pub invariant-loop-digit : goal.invariant-loop-digit
invariant-loop-digit l = (is_number_of 0 l.digits ≡ is_number_of l.value l.rest) × (l.value ≤ 2147483647)

abbrev pub decreases-loop-digit : goal.decreases-loop-digit
decreases-loop-digit l = length l.rest

use Rattle.std.proofs.Common.{◌≡◌, ◌≤◌, ◌+◌, ◌*◌, ◌^◌, length, map}
use Rattle.std.specs.Prelude.{sum}
use Rattle.cl_literals.specs.Strings.{body, characters, units_in}
use Rattle.cl_literals.proofs.strings.count.Given as goal

abbrev pub invariant-loop-rest : goal.invariant-loop-rest
invariant-loop-rest l = record {
  counts : l.total + sum (map (units_in l.unit) (characters 0 l.rest)) ≡ sum (map (units_in l.unit) (characters 0 (body l.text)));
  small : l.total + 4 * length l.rest ≤ 2 ^ 66;
}

abbrev pub decreases-loop-rest : goal.decreases-loop-rest
decreases-loop-rest l = length l.rest

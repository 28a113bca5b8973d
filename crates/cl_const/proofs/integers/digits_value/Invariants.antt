use Rattle.std.proofs.Common.{◌≡◌, take}
use Rattle.cl_const.specs.Integers.{digits_value}
use Rattle.cl_const.proofs.integers.digits_value.Given as goal

abbrev pub invariant-loop-byte : goal.invariant-loop-byte
invariant-loop-byte l = l.value ≡ digits_value l.base (take l.byte-index l.digits)

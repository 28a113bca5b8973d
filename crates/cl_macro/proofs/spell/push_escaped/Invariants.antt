use Rattle.std.proofs.Common.{◌≡◌, ◌++◌, length}
use Rattle.cl_macro.specs.Strings.{escaped}
use Rattle.cl_macro.proofs.spell.push_escaped.Given as goal

abbrev pub invariant-loop-byte : goal.invariant-loop-byte
invariant-loop-byte l = l.fn.text.items ++ escaped l.fn.bytes ≡ l.text.items ++ escaped l.rest

abbrev pub decreases-loop-byte : goal.decreases-loop-byte
decreases-loop-byte l = length l.rest

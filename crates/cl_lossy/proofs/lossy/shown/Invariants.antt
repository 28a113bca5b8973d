use Rattle.std.proofs.Common.{◌≡◌, ◌++◌, length, string_bytes}
use Rattle.cl_lossy.specs.Lossy.{shown}
use Rattle.cl_lossy.proofs.lossy.shown.Given as goal

abbrev pub invariant-loop-rest : goal.invariant-loop-rest
invariant-loop-rest l = shown l.fn.bytes ≡ string_bytes l.text ++ shown l.left

abbrev pub decreases-loop-rest : goal.decreases-loop-rest
decreases-loop-rest l = length l.left

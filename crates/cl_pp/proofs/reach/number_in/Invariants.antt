use Rattle.std.proofs.Common.{◌≡◌, ◌+◌, ◌≤◌, length}
use Rattle.cl_pp.specs.Standing.{number_in}
use Rattle.cl_pp.proofs.reach.number_in.Given as goal

abbrev pub invariant-loop-file : goal.invariant-loop-file
invariant-loop-file l = (number_in l.files l.path + 1 ≡ number_in l.rest l.path + l.number) × (1 ≤ l.number)

abbrev pub decreases-loop-file : goal.decreases-loop-file
decreases-loop-file l = length l.rest

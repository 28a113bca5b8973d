use Rattle.std.proofs.Common.{◌≡◌, ◌++◌, length}
use Rattle.cl_literals.specs.Faults.{faults_from}
use Rattle.cl_literals.proofs.finding.faults.Given as goal

abbrev pub invariant-loop-rest : goal.invariant-loop-rest
invariant-loop-rest l = l.found ++ faults_from 0 l.rest ≡ faults_from 0 l.tokens

abbrev pub decreases-loop-rest : goal.decreases-loop-rest
decreases-loop-rest l = length l.rest

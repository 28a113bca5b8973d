use Rattle.std.proofs.Common.{◌≡◌, ◌≤◌, ◌-◌, [], Some, take, length}
use Rattle.cl_cond.specs.code.Machine.{state_of, waiting}
use Rattle.cl_cond.specs.Words.{words_from}
use Rattle.cl_cond.proofs.Running.{go}
use Rattle.cl_cond.proofs.eval.eval_if.Given as goal

abbrev pub invariant-loop-at : goal.invariant-loop-at
invariant-loop-at l = record {
  within : l.at ≤ length l.tokens;
  goes : go (waiting []) (words_from 0 (take l.at l.tokens)) ≡ Some (state_of l.machine);
}

abbrev pub decreases-loop-at : goal.decreases-loop-at
decreases-loop-at l = length l.tokens - l.at

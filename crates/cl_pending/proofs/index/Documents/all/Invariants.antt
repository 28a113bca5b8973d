use Rattle.std.proofs.Common.{◌≡◌, ◌++◌}
use Rattle.cl_pending.proofs.index.Documents.all.Given as goal

abbrev pub invariant-loop-message : goal.invariant-loop-message
invariant-loop-message l = l.all.items ++ l.message-iterator ≡ l.initial.message-iterator

use Rattle.std.proofs.Common.{◌≡◌, ◌-◌}
use Rattle.std.specs.Prelude.{length}
use Rattle.cl_tree.specs.BadItems.{bad_to, bad_end}
use Rattle.cl_tree.proofs.bad.bad_end.Given as goal

abbrev pub invariant-loop-used : goal.invariant-loop-used
invariant-loop-used l = bad_to l.tokens (length l.tokens - l._used) l.at ≡ bad_end l.tokens l.from

use Rattle.std.proofs.Common.{◌≡◌, ◌-◌}
use Rattle.cl_tree.specs.Brackets.{bad_from, bad_extent}
use Rattle.cl_tree.proofs.bracket.bad_extent.Given as goal

abbrev pub invariant-loop-used : goal.invariant-loop-used
invariant-loop-used l = bad_from l.tokens l.pairs (l.end - l._used) l.at l.end ≡ bad_extent l.tokens l.pairs l.from l.end

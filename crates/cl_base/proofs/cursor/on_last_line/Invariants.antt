use Rattle.std.proofs.Common.{◌-◌, ◌≤◌}
use Rattle.cl_base.specs.Walks.{IsHere}
use Rattle.cl_base.proofs.cursor.on_last_line.Given as goal

abbrev pub invariant-loop-next : goal.invariant-loop-next
invariant-loop-next l = record {
  here : IsHere l.text l.here.at l.here.position.line l.here.position.character;
  order : l.here.at ≤ l.to;
}

abbrev pub decreases-loop-next : goal.decreases-loop-next
decreases-loop-next l = l.to - l.here.at

use Rattle.std.proofs.Common.{◌≤◌, ◌-◌, length}
use Rattle.cl_query.specs.code.Places.{AllStand, Stands}
use Rattle.cl_query.proofs.landmarks.Landmarks.new.Given as goal

abbrev pub invariant-loop-cursor : goal.invariant-loop-cursor
invariant-loop-cursor l = record {
  within : l.cursor.offset ≤ length l.text;
  stands : Stands l.text l.cursor;
  all : AllStand l.text l.cursors;
}

abbrev pub decreases-loop-cursor : goal.decreases-loop-cursor
decreases-loop-cursor l = length l.text - l.cursor.offset

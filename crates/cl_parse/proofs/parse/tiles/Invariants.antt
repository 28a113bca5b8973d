use Rattle.std.proofs.Common.{◌-◌, ◌++◌, [], List, length}
use Rattle.cl_tree.specs.Sets.{has}
use Rattle.cl_parse.specs.Items.{ItemTiles}
use Rattle.cl_parse.specs.code.Reading.{IsDead, Reads, before}
use Rattle.cl_parse.specs.declared.item.Item.{Item}
use Rattle.cl_parse.proofs.parse.tiles.Given as goal

abbrev pub invariant-loop-reading : goal.invariant-loop-reading
invariant-loop-reading l = record {
  reads : Reads l.tokens l.pairs l.reading;
  dead : IsDead l.reading l.dead;
  tiles : (rest : List Item) → ItemTiles l.tokens l.pairs (has l.reading.names) (before l.reading) rest → ItemTiles l.tokens l.pairs (has l.fn.typedefs) [] (l.items ++ rest);
}

abbrev pub decreases-loop-reading : goal.decreases-loop-reading
decreases-loop-reading l = length l.tokens - l.reading.at

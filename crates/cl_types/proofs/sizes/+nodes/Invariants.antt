use Rattle.std.proofs.Common.{◌≡◌, drop, map}
use Rattle.cl_types.specs.Normal.{all_nodes, left_of, nodes}
use Rattle.cl_types.proofs.sizes.+nodes.Given as goal

abbrev pub invariant-room_after_all-loop-t : goal.invariant-room_after_all-loop-t
invariant-room_after_all-loop-t l = left_of l.room (all_nodes (map nodes (drop l.t-index l.types))) ≡ left_of l.initial.room (all_nodes (map nodes l.types))

-- The entries of a tree.
use Rattle.std.specs.Prelude.{Option, None, Some, [], ◌∷◌, ◌++◌}
use Rattle.std.specs.declared.alloc.Global.{Global}
use Rattle.std.specs.declared.sync.Arc.{Arc}
use Rattle.cl_headers.specs.Headers.{Headers}
use Rattle.cl_headers.specs.declared.tree.Fork.{Fork}

-- those on the left, the node's own, those on the right
abbrev pub entries : Option (Arc Fork Global) → Headers
entries None = []
entries (Some fork) = fork.value.left ++ fork.value.entry.value ∷ fork.value.right

use Rattle.std.proofs.Common.{◌≡◌, ◌++◌, take}
use Rattle.std.specs.List.{flat_map}
use Rattle.cl_tree.specs.declared.tree.Tree.{Tree}
use Rattle.cl_outline.specs.Mentions.{mentions}
use Rattle.cl_outline.proofs.collect.+collect.Given as goal

abbrev pub invariant-loop-part : goal.invariant-loop-part
invariant-loop-part l = l.out ≡ l.initial.out ++ flat_map (λ (t : Tree). mentions l.tokens t l.inner) (take l.part-index l.part-items)

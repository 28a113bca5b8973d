use Rattle.std.proofs.Common.{◌≡◌, take}
use Rattle.std.specs.List.{flat_map}
use Rattle.cl_outline.specs.Mentions.{mentioned_in}
use Rattle.cl_outline.proofs.declared.outline.Given as goal

abbrev pub invariant-loop-item : goal.invariant-loop-item
invariant-loop-item l = l.mentions ≡ flat_map (mentioned_in l.tokens) (take l.item-index l.items)

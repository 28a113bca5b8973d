-- The entries of a tree whose root is a fork.
use Rattle.std.proofs.Common.{◌≡◌, ◌<◌, ◌∷◌, ◌++◌, length, sym, ap, ◌∙◌, subst, arith, length-append}
use Rattle.std.specs.Prelude.{Option, Some}
use Rattle.std.specs.declared.alloc.Global.{Global}
use Rattle.std.specs.declared.sync.Arc.{Arc}
use Rattle.cl_headers.specs.Headers.{Headers}
use Rattle.cl_headers.specs.Maps.{InOrder}
use Rattle.cl_headers.specs.code.Trees.{entries}
use Rattle.cl_headers.specs.declared.tree.Fork.{Fork}
use Rattle.cl_headers.proofs.Row.{left_in_order, right_in_order}

pub at_fork : (root : Option (Arc Fork Global)) (fork : Arc Fork Global) (now : Headers) → entries root ≡ now → root ≡ Some fork
    → now ≡ fork.value.left ++ fork.value.entry.value ∷ fork.value.right
at_fork root fork now view is = sym view ∙ ap entries is

pub left_side : (fork : Fork) (now : Headers) → now ≡ fork.left ++ fork.entry.value ∷ fork.right → InOrder now → InOrder fork.left
left_side fork now is ordered = left_in_order fork.left fork.entry.value fork.right (subst InOrder is ordered)

pub right_side : (fork : Fork) (now : Headers) → now ≡ fork.left ++ fork.entry.value ∷ fork.right → InOrder now → InOrder fork.right
right_side fork now is ordered = right_in_order fork.left fork.entry.value fork.right (subst InOrder is ordered)

pub left_shorter : (fork : Fork) (now : Headers) → now ≡ fork.left ++ fork.entry.value ∷ fork.right → length fork.left < length now
left_shorter fork now is = rw is (omega (arith, length-append fork.left (fork.entry.value ∷ fork.right)))

pub right_shorter : (fork : Fork) (now : Headers) → now ≡ fork.left ++ fork.entry.value ∷ fork.right → length fork.right < length now
right_shorter fork now is = rw is (omega (arith, length-append fork.left (fork.entry.value ∷ fork.right)))

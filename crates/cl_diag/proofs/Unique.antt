-- Diagnostics have one order.
use Rattle.std.proofs.Common.{◌≡◌, List, sym, ◌∙◌}
use Rattle.std.proofs.lemmas.Map.Lookups.{btree_set_from_contains}
use Rattle.std.specs.BTreeSet.{BTreeSet}
use Rattle.cl_base.specs.declared.token.Diag.{Diag}
use Rattle.cl_diag.specs.Order.{IsInOrder}
use Rattle.cl_diag.proofs.Ordering.{diag_total, exact_diag}

abbrev as_set : List Diag → BTreeSet Diag
as_set ds = record { keys = ds }

pub one_order : (diags x y : List Diag) → IsInOrder diags x → IsInOrder diags y → x ≡ y
one_order diags x y h k = btree_set_from_contains diag_total (as_set x) (as_set y) h.rising k.rising (λ q. h.same q ∙ sym (k.same q)) exact_diag

-- Diagnostics by what orders them.
use Rattle.std.specs.Prelude.{◌≡◌, List, ◌||◌}
use Rattle.std.specs.BTreeSet.{BTreeSet, IsOrdered, contains}
use Rattle.std.specs.Option.{option_cmp}
use Rattle.std.specs.declared.cmp.Ordering.{Ordering}
use Rattle.std.specs.Ordering.{nat_cmp, ordering_then}
use Rattle.std.specs.Cmp.Lexicographic.{slice_cmp}
use Rattle.cl_base.specs.declared.token.Diag.{Diag}
use Rattle.cl_diag.specs.declared.rank.Rank.{Rank}
use Rattle.cl_diag.specs.Order.{has}

abbrev pub rank_of : Diag → Rank
rank_of d = record { file = d.at.file; from = d.at.from; number = d.number; to = d.at.to; name = d.name }

abbrev pub diag_of : Rank → Diag
diag_of r = record { number = r.number; at = record { file = r.file; from = r.from; to = r.to }; name = r.name }

abbrev pub rank_cmp : Rank → Rank → Ordering
rank_cmp a b =
    ordering_then (nat_cmp a.file b.file)
    (ordering_then (nat_cmp a.from b.from)
    (ordering_then (nat_cmp a.number b.number)
    (ordering_then (nat_cmp a.to b.to) (option_cmp (slice_cmp nat_cmp) a.name b.name))))

-- the set has those that are no longer left
pub record Taken (diags left : List Diag) (set : BTreeSet Rank) : Type 0 where
  pub ordered : IsOrdered rank_cmp set
  pub same : (diag : Diag) → (contains rank_cmp set (rank_of diag) || has left diag) ≡ has diags diag

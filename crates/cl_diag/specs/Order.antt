-- The order of diagnostics.
use Rattle.std.specs.Prelude.{◌≡◌, List, Bool}
use Rattle.std.specs.List.{list_any}
use Rattle.std.specs.List.Sorted.{IsStrictlySortedBy}
use Rattle.std.specs.Option.{option_cmp}
use Rattle.std.specs.declared.cmp.Ordering.{Ordering}
use Rattle.std.specs.Ordering.{is_eq, nat_cmp, ordering_then}
use Rattle.std.specs.Cmp.Lexicographic.{slice_cmp}
use Rattle.cl_base.specs.declared.token.Diag.{Diag}

-- by file, then by where its place begins, then by its number, then by where its place ends, then by the bytes of its name,
-- where one without a name goes first
abbrev pub diag_cmp : Diag → Diag → Ordering
diag_cmp a b =
    ordering_then (nat_cmp a.at.file b.at.file)
    (ordering_then (nat_cmp a.at.from b.at.from)
    (ordering_then (nat_cmp a.number b.number)
    (ordering_then (nat_cmp a.at.to b.at.to) (option_cmp (slice_cmp nat_cmp) a.name b.name))))

-- the diagnostic stands there
abbrev pub has : List Diag → Diag → Bool
has diags diag = list_any (λ (other : Diag). is_eq (diag_cmp diag other)) diags

-- the same diagnostics, each of them once, each before those that it goes before
pub record IsInOrder (diags all : List Diag) : Type 0 where
  pub rising : IsStrictlySortedBy diag_cmp all
  pub same : (diag : Diag) → has all diag ≡ has diags diag

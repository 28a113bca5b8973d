-- Sets of names.
use Rattle.std.specs.Prelude.{◌≡◌, ℕ, List, Bool, true, false, cond}
use Rattle.std.specs.Cmp.Lexicographic.{slice_cmp}
use Rattle.std.specs.Ordering.{nat_cmp, is_eq}
use Rattle.std.specs.BTreeSet.{contains}
use Rattle.cl_tree.specs.declared.set.NameSet.{NameSet}

-- whether a name is in the set
abbrev pub has : NameSet → List ℕ → Bool
has set name = contains (slice_cmp nat_cmp) set.names name

-- two names are one: neither goes before the other in the order of their bytes
abbrev pub is_name : List ℕ → List ℕ → Bool
is_name name other = is_eq (slice_cmp nat_cmp name other)

-- the name is in the set now, and all else is as it was
abbrev pub IsAdded : NameSet → NameSet → List ℕ → Type 0
IsAdded old new name = (other : List ℕ) → has new other ≡ cond (is_name name other) true (has old other)

-- the name is no longer in the set, and all else is as it was
abbrev pub IsTaken : NameSet → NameSet → List ℕ → Type 0
IsTaken old new name = (other : List ℕ) → has new other ≡ cond (is_name name other) false (has old other)

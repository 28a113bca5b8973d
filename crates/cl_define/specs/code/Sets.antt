-- A set that holds names, and how it is filled from the end of a list.
use Rattle.std.specs.Prelude.{◌≡◌, ℕ, List, ◌++◌, true}
use Rattle.std.specs.BTreeSet.{BTreeSet, contains}
use Rattle.std.specs.Cmp.Lexicographic.{slice_cmp}
use Rattle.std.specs.Ordering.{nat_cmp}
use Rattle.cl_define.specs.Words.{has}
use Rattle.cl_define.specs.Constraints.{are_distinct}

abbrev pub Holds : BTreeSet (List ℕ) → List (List ℕ) → Type 0
Holds set names = (name : List ℕ) → contains (slice_cmp nat_cmp) set name ≡ has names name

-- the set has the names behind the rest, of which none stands there twice
pub record Gathered (names rest : List (List ℕ)) (set : BTreeSet (List ℕ)) : Type 0 where
  pub behind : List (List ℕ)
  pub whole : names ≡ rest ++ behind
  pub distinct : are_distinct behind ≡ true
  pub holds : Holds set behind

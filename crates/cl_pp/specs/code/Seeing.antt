-- The names that are at hand.
use Rattle.std.specs.Prelude.{◌≡◌, ◌⊎◌, ℕ, List, Option, Some, None, Bool, false, nat_eq, slice_get}
use Rattle.std.specs.Cmp.Lexicographic.{pointwise}

-- what stands at a place is this name
abbrev pub is_name : Option (Option (List ℕ)) → List ℕ → Bool
is_name None name = false
is_name (Some None) name = false
is_name (Some (Some one)) name = pointwise nat_eq one name

abbrev pub is_at : List (Option (List ℕ)) → ℕ → List ℕ → Bool
is_at places i name = is_name (slice_get places i) name

-- a name stands at one of the places
abbrev pub IsAtHand : List (Option (List ℕ)) → List ℕ → Type 0
IsAtHand places name = (i : ℕ) × (slice_get places i ≡ Some (Some name))

-- no name stands at any
abbrev pub AreEmpty : List (Option (List ℕ)) → Type 0
AreEmpty places = (name : List ℕ) → IsAtHand places name → ⊥

-- this name may stand there now, and else none that didn't before
abbrev pub IsPut : List ℕ → List (Option (List ℕ)) → List (Option (List ℕ)) → Type 0
IsPut name old new = (other : List ℕ) → IsAtHand new other → (other ≡ name) ⊎ IsAtHand old other

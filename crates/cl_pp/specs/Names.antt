-- Names, each once, in the order in which they came first.
use Rattle.std.specs.Prelude.{ℕ, Bool, if◌then◌else◌, List, [], ◌∷◌, ◌++◌}
use Rattle.std.specs.List.{list_any}
use Rattle.cl_macro.specs.Table.{is_name}

abbrev pub contains : List (List ℕ) → List ℕ → Bool
contains names name = list_any (λ n. is_name n name) names

abbrev pub with_name : List (List ℕ) → List ℕ → List (List ℕ)
with_name names name = if contains names name then names else names ++ name ∷ []

abbrev pub with_names : List (List ℕ) → List (List ℕ) → List (List ℕ)
with_names names [] = names
with_names names (name ∷ more) = with_names (with_name names name) more

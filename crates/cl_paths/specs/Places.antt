-- When two paths name one place: by these rules alone, whatever the file system has there.
use Rattle.std.specs.Prelude.{◌≡◌, ◌⊎◌, Bool, true, false, List, [], ◌∷◌, ◌++◌, ℕ}
use Rattle.cl_paths.specs.Parts.{here, up, parts, is_rooted}

-- a part that leads down
pub record IsName (part : List ℕ) : Type 0 where
  pub full : part ≡ [] → ⊥
  pub other : part ≡ here → ⊥
  pub down : part ≡ up → ⊥

abbrev pub AreNames : List (List ℕ) → Type 0
AreNames [] = Unit {0}
AreNames (part ∷ ps) = IsName part × AreNames ps

-- the parts of a normal form: names, and before them any `..`, but none where the path begins at the root
abbrev pub IsNormal : Bool → List (List ℕ) → Type 0
IsNormal true ps = AreNames ps
IsNormal false [] = Unit {0}
IsNormal false (part ∷ ps) = ((part ≡ up) × IsNormal false ps) ⊎ AreNames (part ∷ ps)

-- two lists of parts that lead to one place, from the root or from elsewhere
pub data SameWay (rooted : Bool) : List (List ℕ) → List (List ℕ) → Type 0 where
  same : (ps : List (List ℕ)) → SameWay rooted ps ps
  turned : (ps qs : List (List ℕ)) → SameWay rooted ps qs → SameWay rooted qs ps
  chained : (ps qs rs : List (List ℕ)) → SameWay rooted ps qs → SameWay rooted qs rs → SameWay rooted ps rs
  -- an empty part leads nowhere, and so does `.`
  empty : (ps qs : List (List ℕ)) → SameWay rooted (ps ++ [] ∷ qs) (ps ++ qs)
  dot : (ps qs : List (List ℕ)) → SameWay rooted (ps ++ here ∷ qs) (ps ++ qs)
  -- `..` after a name leads back
  back : (ps qs : List (List ℕ)) (part : List ℕ) → IsName part → SameWay rooted (ps ++ part ∷ up ∷ qs) (ps ++ qs)
  -- nothing is above the root
  top : (qs : List (List ℕ)) → rooted ≡ true → SameWay rooted (up ∷ qs) qs

pub record SamePlace (p q : List ℕ) : Type 0 where
  pub rooted : is_rooted p ≡ is_rooted q
  pub way : SameWay (is_rooted p) (parts p) (parts q)

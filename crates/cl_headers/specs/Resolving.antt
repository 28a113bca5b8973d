-- Where a header is looked for, and what is found there (N1570 6.10.2).
use Rattle.std.specs.Prelude.{◌≡◌, ℕ, Bool, if◌then◌else◌, List, [], ◌∷◌, ◌++◌, map}
use Rattle.std.specs.List.{AllByRecursion}
use Rattle.std.specs.Option.{unwrap_or}
use Rattle.cl_base.specs.declared.headers.Known.{Known}
use Rattle.cl_base.specs.declared.headers.Known.TheVariants as state
use Rattle.cl_paths.specs.Parts.{is_rooted, joined}
use Rattle.cl_headers.specs.Headers.{Headers, known_at}
use Rattle.cl_headers.specs.declared.resolving.Resolved.{Resolved}
use Rattle.cl_headers.specs.declared.resolving.Resolved.TheVariants.{File, Failed, Need, Missing}

-- what is known of each path, where these headers are known
abbrev pub known_of : Headers → List ℕ → Known
known_of headers path = unwrap_or (known_at headers path) state.Unknown

-- the paths of this name in some folders
abbrev pub named : List (List ℕ) → List ℕ → List (List ℕ)
named folders name = map (λ folder. joined folder name) folders

-- the places that are searched, in order: first the folder of the text that names the header, unless the name stands
-- between `<` and `>`, then the folders for headers. A name that begins with `/` names one place, whatever the folder
abbrev pub candidates : List ℕ → List ℕ → Bool → List (List ℕ) → List (List ℕ)
candidates from name angled folders = named (if is_rooted name then from ∷ [] else (if angled then folders else from ∷ folders)) name

-- none of these paths has a file
abbrev pub AllAbsent : (List ℕ → Known) → List (List ℕ) → Type 0
AllAbsent known paths = AllByRecursion (λ path. known path ≡ state.Absent) paths

-- what a path comes to that isn't absent
abbrev pub ComesTo : List ℕ → Known → Resolved → Type 0
ComesTo path (state.Found text) resolved = resolved ≡ File path text
ComesTo path state.Failed resolved = resolved ≡ Failed path
ComesTo path state.Unknown resolved = resolved ≡ Need path
ComesTo path state.Absent resolved = ⊥

-- the first candidate that isn't absent decides, and the candidates up to it were asked for; where all are absent the
-- header is missing, and all were asked for
pub data Resolves (known : List ℕ → Known) (paths asked : List (List ℕ)) (resolved : Resolved) : Type 0 where
  decided : (front : List (List ℕ)) (path : List ℕ) (rest : List (List ℕ)) → paths ≡ front ++ path ∷ rest → AllAbsent known front → ComesTo path (known path) resolved
      → asked ≡ front ++ path ∷ [] → Resolves known paths asked resolved
  missing : AllAbsent known paths → asked ≡ paths → resolved ≡ Missing → Resolves known paths asked resolved

-- the same, where `before` was asked for before the search, and `after` after it
pub record Answers (known : List ℕ → Known) (paths before after : List (List ℕ)) (resolved : Resolved) : Type 0 where
  pub asked : List (List ℕ)
  pub grown : after ≡ before ++ asked
  pub resolves : Resolves known paths asked resolved

-- a search that was given up: a front of the candidates was asked for, all of them absent
pub record Stops (known : List ℕ → Known) (paths before after : List (List ℕ)) : Type 0 where
  pub front : List (List ℕ)
  pub rest : List (List ℕ)
  pub split : paths ≡ front ++ rest
  pub absent : AllAbsent known front
  pub grown : after ≡ before ++ front

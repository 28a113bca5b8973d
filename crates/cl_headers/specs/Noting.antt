-- What is kept of searches for headers.
use Rattle.std.specs.Prelude.{◌≡◌, ℕ, List, ◌++◌, map}
use Rattle.cl_base.specs.declared.headers.Known.{Known}
use Rattle.cl_headers.specs.Resolving.{Resolves}
use Rattle.cl_headers.specs.declared.dep.Dep.{Dep}
use Rattle.cl_headers.specs.declared.resolving.Resolved.{Resolved}

-- a path with what is known of it
abbrev pub dep_of : (List ℕ → Known) → List ℕ → Dep
dep_of known path = record { path = path; known = known path }

-- the paths that were asked since, and they alone, are kept, in order, each with what is known of it
pub record IsNoted (known : List ℕ → Known) (olds news : List Dep) (before after : List (List ℕ)) : Type 0 where
  pub asked : List (List ℕ)
  pub since : after ≡ before ++ asked
  pub are : news ≡ olds ++ map (dep_of known) asked

-- so they are by a search among these paths, which comes to this
pub record Searches (known : List ℕ → Known) (paths : List (List ℕ)) (olds news : List Dep) (before after : List (List ℕ)) (resolved : Resolved) : Type 0 where
  pub asked : List (List ℕ)
  pub since : after ≡ before ++ asked
  pub are : news ≡ olds ++ map (dep_of known) asked
  pub resolves : Resolves known paths asked resolved

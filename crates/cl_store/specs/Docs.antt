-- The open documents as a map from paths.
use Rattle.std.specs.Prelude.{◌≡◌, ℕ, List, Option, if◌then◌else◌}
use Rattle.std.specs.Ordering.{nat_cmp}
use Rattle.std.specs.Cmp.Lexicographic.{slice_cmp}
use Rattle.std.specs.Str.{bytes_eq}
use Rattle.std.specs.Map.{lookup}
use Rattle.std.specs.BTreeMap.{is_at}
use Rattle.cl_store.specs.declared.docs.Doc.{Doc}

-- the documents, each with its path, in the order of the paths' bytes
abbrev pub Opened : Type 0
Opened = List (List ℕ × Doc)

-- the document of a path, if it is open
abbrev pub doc_at : Opened → List ℕ → Option Doc
doc_at docs path = lookup (is_at (slice_cmp nat_cmp path)) docs

-- the new documents have this at the path, and what the old ones had at every other
abbrev pub Puts : Opened → Opened → List ℕ → Option Doc → Type 0
Puts old new path doc = (q : List ℕ) → doc_at new q ≡ (if bytes_eq path q then doc else doc_at old q)

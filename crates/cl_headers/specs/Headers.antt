-- What is known of headers, as a list of paths with what is known of each.
use Rattle.std.specs.Prelude.{◌≡◌, ℕ, List, Option, if◌then◌else◌}
use Rattle.std.specs.Ordering.{nat_cmp}
use Rattle.std.specs.Cmp.Lexicographic.{slice_cmp}
use Rattle.std.specs.Str.{bytes_eq}
use Rattle.std.specs.Map.{lookup}
use Rattle.std.specs.BTreeMap.{is_at}
use Rattle.cl_base.specs.declared.headers.Known.{Known}

-- paths, in the order of their bytes, each with what is known of it
abbrev pub Headers : Type 0
Headers = List (List ℕ × Known)

-- what is known of a path, if something is
abbrev pub known_at : Headers → List ℕ → Option Known
known_at headers path = lookup (is_at (slice_cmp nat_cmp path)) headers

-- the new map has this at the path, and what the old one had at every other
abbrev pub Puts : Headers → Headers → List ℕ → Option Known → Type 0
Puts old new path known = (q : List ℕ) → known_at new q ≡ (if bytes_eq path q then known else known_at old q)

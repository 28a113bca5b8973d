-- Where what is known of some headers is known elsewhere.
use Rattle.std.specs.Prelude.{◌≡◌, ℕ, List, Some}
use Rattle.std.specs.List.{AllByRecursion}
use Rattle.cl_base.specs.declared.headers.Known.{Known}
use Rattle.cl_headers.specs.Headers.{Headers, known_at}

abbrev pub IsWithin : Headers → Headers → Type 0
IsWithin headers others = AllByRecursion (λ (entry : List ℕ × Known). known_at others entry.0 ≡ Some entry.1) headers

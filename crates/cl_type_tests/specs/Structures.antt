-- The members of structures and unions, by their numbers.
use Rattle.std.specs.Prelude.{ℕ, List, Option, slice_get}
use Rattle.cl_types.specs.declared.unit.Member.{Member}

abbrev pub content_of : List (List Member) → ℕ → Option (List Member)
content_of lists tag = slice_get lists tag

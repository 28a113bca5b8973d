-- What holds of every header map.
use Rattle.std.specs.Prelude.{◌≢◌, ℕ, List}
use Rattle.std.specs.List.{AllByRecursion}
use Rattle.std.specs.List.Sorted.{IsStrictlySortedBy}
use Rattle.std.specs.Map.{keys_of}
use Rattle.std.specs.Ordering.{nat_cmp}
use Rattle.std.specs.Cmp.Lexicographic.{slice_cmp}
use Rattle.cl_base.specs.declared.headers.Known.{Known}
use Rattle.cl_base.specs.declared.headers.Known.TheVariants.{Unknown}
use Rattle.cl_headers.specs.Headers.{Headers}

-- each path stands once, in the order of the paths' bytes
abbrev pub InOrder : Headers → Type 0
InOrder headers = IsStrictlySortedBy (slice_cmp nat_cmp) (keys_of headers)

-- and nothing is put down as unknown
pub record IsHeaderMap (headers : Headers) : Type 0 where
  pub ordered : InOrder headers
  pub told : AllByRecursion (λ (entry : List ℕ × Known). entry.1 ≢ Unknown) headers

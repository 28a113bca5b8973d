-- What a snapshot doesn't know.
use Rattle.std.specs.Prelude.{◌≡◌, ℕ, List, None}
use Rattle.std.specs.Coded.{Coded-set, coded_option}
use Rattle.cl_base.specs.contracts.headers.Known.{the_row}
use Rattle.cl_headers.specs.Headers.{Headers, known_at}

-- nothing is known of the path
abbrev pub IsUnknown : Headers → List ℕ → Type 0
IsUnknown headers path = known_at headers path ≡ None

-- it holds in one way at most
pub IsUnknown-prop : (headers : Headers) (path : List ℕ) → IsProp (IsUnknown headers path)
IsUnknown-prop headers path = Coded-set (coded_option the_row.coded) (known_at headers path) None

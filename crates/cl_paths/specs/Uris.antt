-- Paths as `file` URIs (RFC 8089; RFC 3986, sections 2.1, 2.3, 3.1 and 3.2.2).
use Rattle.std.specs.Prelude.{ℕ, ◌==◌, ◌||◌, ◌&&◌, not, Bool, nat_eq, if◌then◌else◌, List, [], ◌∷◌, ◌++◌, take, drop, map, Option, Some, None, option_and_then, codes}
use Rattle.std.specs.Char.{to_ascii_lowercase, is_ascii_alphanumeric}
use Rattle.std.specs.List.{starts_with, position_or_len, before_first, list_any, flat_map}
use Rattle.std.specs.Str.{bytes_eq, is_utf8}
use Rattle.percent_encoding.specs.Percent.{percent_encode_byte, percent_decode}
use Rattle.cl_paths.specs.Parts.{slash, is_rooted, normal_form}

-- equal up to the case of letters of ASCII
abbrev pub alike : List ℕ → List ℕ → Bool
alike a b = bytes_eq (map to_ascii_lowercase a) (map to_ascii_lowercase b)

-- what follows the scheme of a `file` URI
abbrev pub after_scheme : List ℕ → Option (List ℕ)
after_scheme uri = if alike (take 5 uri) (codes "file:") then Some (drop 5 uri) else None

abbrev pub has_authority : List ℕ → Bool
has_authority rest = starts_with nat_eq rest (codes "//")

-- where the path begins in what follows the two slashes
abbrev pub host_len : List ℕ → ℕ
host_len rest = position_or_len (λ b. b == slash) rest

-- the host, empty where none is written
abbrev pub host : List ℕ → List ℕ
host rest = if has_authority rest then take (host_len (drop 2 rest)) (drop 2 rest) else []

-- what follows the host
abbrev pub after_host : List ℕ → List ℕ
after_host rest = if has_authority rest then drop (host_len (drop 2 rest)) (drop 2 rest) else rest

-- this machine
abbrev pub is_local : List ℕ → Bool
is_local name = bytes_eq name [] || alike name (codes "localhost")

-- a query or a fragment begins
abbrev pub ends_path : ℕ → Bool
ends_path b = (b == 63) || (b == 35)

-- the path as it is written
abbrev pub written_path : List ℕ → List ℕ
written_path rest = before_first ends_path (after_host rest)

-- a text with no zero byte
abbrev pub is_path_text : List ℕ → Bool
is_path_text text = is_utf8 text && not (list_any (λ b. b == 0) text)

-- the path that bytes mean once their escapes are decoded
abbrev pub path_of_text : List ℕ → Option (List ℕ)
path_of_text text = if is_path_text text then Some (normal_form text) else None

abbrev pub path_of_written : List ℕ → Option (List ℕ)
path_of_written written = if is_rooted written then path_of_text (percent_decode written) else None

abbrev pub path_after_scheme : List ℕ → Option (List ℕ)
path_after_scheme rest = if is_local (host rest) then path_of_written (written_path rest) else None

-- the path that a URI names
unfoldable pub path_in : List ℕ → Option (List ℕ)
path_in uri = option_and_then path_after_scheme (after_scheme uri)

-- a byte that stands for itself: letters, digits, `-`, `.`, `_`, `~` and `/`
abbrev pub is_plain : ℕ → Bool
is_plain b = is_ascii_alphanumeric b || (b == 45) || (b == 46) || (b == 95) || (b == 126) || (b == slash)

-- any other is `%` and its two digits
abbrev pub escaped : ℕ → List ℕ
escaped b = if is_plain b then b ∷ [] else percent_encode_byte b

-- the URI of a path
unfoldable pub uri_of : List ℕ → List ℕ
uri_of path = codes "file://" ++ flat_map escaped path

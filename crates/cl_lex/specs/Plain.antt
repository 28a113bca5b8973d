-- Texts whose bytes are their characters.
use Rattle.std.specs.Prelude.{◌≡◌, ℕ, ◌<◌, ◌&&◌, ◌||◌, ◌==◌, not, List, length, slice_index, Bool, true}
use Rattle.cl_lex.specs.Source.{value_at, width_at, is_splice}

-- the byte here is a character by itself
abbrev pub is_plain_at : List ℕ → ℕ → Bool
is_plain_at text at = value_at text at == slice_index text at && width_at text at == 1 && not (is_splice text at)

-- each byte is one
abbrev pub IsPlain : List ℕ → Type 0
IsPlain text = (i : ℕ) → i < length text → is_plain_at text i ≡ true

-- CR, `?` or a backslash: each other byte is a character by itself, but for a byte order mark's at the start
abbrev pub is_special : ℕ → Bool
is_special c = c == 13 || c == 63 || c == 92

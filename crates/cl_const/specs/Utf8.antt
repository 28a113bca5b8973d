-- The codes of the characters outside ASCII, as UTF-8 writes them (RFC 3629, section 3).
use Rattle.std.specs.Prelude.{◌≤◌, ◌≡◌, ℕ, ◌+◌, ◌*◌, ◌%◌, ◌==◌, if◌then◌else◌, List, [], ◌∷◌, length, Option, Some, None}
use Rattle.std.specs.Char.{IsScalar, encode_utf8}
use Rattle.cl_base.specs.Characters.{char_len}

-- a code, and behind it the six bits that a further byte holds
abbrev pub tail : ℕ → ℕ → ℕ
tail code byte = code * 64 + byte % 64

-- the bits that two, three or four bytes hold of a code: the first five, four or three, and each further one six
abbrev pub code_in : List ℕ → Option ℕ
code_in (a ∷ b ∷ []) = Some (tail (a % 32) b)
code_in (a ∷ b ∷ c ∷ []) = Some (tail (tail (a % 16) b) c)
code_in (a ∷ b ∷ c ∷ d ∷ []) = Some (tail (tail (tail (a % 8) b) c) d)
code_in _ = None

-- the character that these two, three or four bytes are
abbrev pub code_point : List ℕ → Option ℕ
code_point bytes = if char_len bytes 0 == length bytes then code_in bytes else None

-- ---- the same by UTF-8

-- the bytes are those of one character outside ASCII
pub record IsCharacter (bytes : List ℕ) (code : ℕ) : Type 0 where
  pub beyond : 128 ≤ code
  pub is_scalar : IsScalar code
  pub written : encode_utf8 code ≡ bytes

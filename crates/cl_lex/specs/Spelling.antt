-- What the tokens, the comments and the white space of a text are spelled with (N1570 6.4). `cs` are the characters of a
-- text after phases 1 and 2, and what is spoken of lies from one of them up to, and without, another, counted from 0.
use Rattle.std.specs.Prelude.{◌≡◌, ◌≢◌, ◌⊎◌, ℕ, zero, suc, ◌+◌, ◌-◌, ◌<◌, ◌≤◌, ◌&&◌, ◌||◌, ◌==◌, List, length, slice_index, Bool, true, false, not, if◌then◌else◌}
use Rattle.cl_lex.specs.Bytes.{is_blank, is_digit, is_exponent, is_hex, is_name_byte, is_name_start, is_sign}
use Rattle.cl_lex.specs.Source.{stands}

module _ (cs : List ℕ) where
  -- each character from one place up to another passes
  abbrev pub AllPass : (ℕ → Bool) → ℕ → ℕ → Type 0
  AllPass passes from to = (i : ℕ) → from ≤ i → i < to → passes (slice_index cs i) ≡ true

  -- none of them is this one
  abbrev pub HasNone : ℕ → ℕ → ℕ → Type 0
  HasNone c from to = (i : ℕ) → from ≤ i → i < to → slice_index cs i ≢ c

  -- an identifier: a nondigit, and then nondigits and digits (6.4.2.1)
  abbrev pub IsIdent : ℕ → ℕ → Type 0
  IsIdent from to = (from < to) × (is_name_start (slice_index cs from) ≡ true) × AllPass is_name_byte from to

  -- what may go on a number: a letter, `_`, a digit, a dot, or a sign right after an exponent's letter (6.4.8)
  abbrev pub goes_on_number : ℕ → Bool
  goes_on_number i =
      is_name_byte (slice_index cs i) || slice_index cs i == 46 || (is_sign (slice_index cs i) && is_exponent (slice_index cs (i - 1)))

  -- a preprocessing number (6.4.8)
  abbrev pub IsNumber : ℕ → ℕ → Type 0
  IsNumber from to =
      (from < to) × (is_digit (slice_index cs from) ≡ true ⊎ ((from + 1 < to) × (slice_index cs from ≡ 46) × (is_digit (slice_index cs (from + 1)) ≡ true)))
      × ((i : ℕ) → from < i → i < to → goes_on_number i ≡ true)

  -- the character that stands `n` places after `from` is taken by a backslash that is not taken itself
  unfoldable pub is_escaped : ℕ → ℕ → Bool
  is_escaped from zero = false
  is_escaped from (suc n) = slice_index cs (from + n) == 92 && not (is_escaped from n)

  -- from the character after an opening quote up to the closing one: no line ends, and each quote before it is escaped
  -- (6.4.4.4, 6.4.5)
  pub record IsQuoted (quote from close : ℕ) : Type 0 where
    pub order : from ≤ close
    pub within : close < length cs
    pub closes : slice_index cs close ≡ quote
    pub free : is_escaped from (close - from) ≡ false
    pub one_line : HasNone 10 from close
    pub first : (i : ℕ) → from ≤ i → i < close → slice_index cs i ≡ quote → is_escaped from (i - from) ≡ true

  -- how long the prefix of a character constant may be that begins here: `L`, `u`, `U` or none (6.4.4.4)
  abbrev pub char_prefix : ℕ → ℕ
  char_prefix from = if stands cs from 76 || stands cs from 117 || stands cs from 85 then 1 else 0

  -- and that of a string literal: also `u8` (6.4.5)
  abbrev pub str_prefix : ℕ → ℕ
  str_prefix from = if stands cs from 117 && stands cs (from + 1) 56 then 2 else char_prefix from

  -- a character constant: at least one character between single quotes
  abbrev pub IsChar : ℕ → ℕ → Type 0
  IsChar from to =
      (slice_index cs (from + char_prefix from) ≡ 39) × (from + char_prefix from + 2 < to) × IsQuoted 39 (from + char_prefix from + 1) (to - 1)

  -- a string literal
  abbrev pub IsStr : ℕ → ℕ → Type 0
  IsStr from to =
      (slice_index cs (from + str_prefix from) ≡ 34) × (from + str_prefix from + 1 < to) × IsQuoted 34 (from + str_prefix from + 1) (to - 1)

  -- at least one character between these two, on one line and none of them the second one
  abbrev pub IsBetween : ℕ → ℕ → ℕ → ℕ → Type 0
  IsBetween open_by close_by from to =
      (from + 2 < to) × (to ≤ length cs) × (slice_index cs from ≡ open_by) × (slice_index cs (to - 1) ≡ close_by)
      × HasNone close_by (from + 1) (to - 1) × HasNone 10 (from + 1) (to - 1)

  -- a header name (6.4.7)
  abbrev pub IsHeader : ℕ → ℕ → Type 0
  IsHeader from to = IsBetween 60 62 from to ⊎ IsBetween 34 34 from to

  -- a comment in `/*` and the first `*/` after it (6.4.9p1)
  abbrev pub IsBlockComment : ℕ → ℕ → Type 0
  IsBlockComment from to =
      (from + 4 ≤ to) × (slice_index cs from ≡ 47) × (slice_index cs (from + 1) ≡ 42) × (slice_index cs (to - 2) ≡ 42) × (slice_index cs (to - 1) ≡ 47)
      × ((i : ℕ) → from + 2 ≤ i → i + 2 < to → slice_index cs i ≡ 42 → slice_index cs (i + 1) ≢ 47)

  -- `//` and what follows on the line (6.4.9p2)
  abbrev pub IsLineComment : ℕ → ℕ → Type 0
  IsLineComment from to =
      (from + 2 ≤ to) × (slice_index cs from ≡ 47) × (slice_index cs (from + 1) ≡ 47) × HasNone 10 (from + 2) to

  -- `/*` without a `*/` after it, up to the end
  abbrev pub IsOpenComment : ℕ → ℕ → Type 0
  IsOpenComment from to =
      (from + 2 ≤ to) × (to ≡ length cs) × (slice_index cs from ≡ 47) × (slice_index cs (from + 1) ≡ 42)
      × ((i : ℕ) → from + 2 ≤ i → i + 1 < to → slice_index cs i ≡ 42 → slice_index cs (i + 1) ≢ 47)

  -- white space within a line
  abbrev pub IsSpace : ℕ → ℕ → Type 0
  IsSpace from to = (from < to) × AllPass is_blank from to

  abbrev pub IsNewLine : ℕ → ℕ → Type 0
  IsNewLine from to = (to ≡ from + 1) × (slice_index cs from ≡ 10)

  -- so many hexadecimal digits stand here
  abbrev pub are_hex : ℕ → ℕ → Bool
  are_hex from zero = true
  are_hex from (suc n) = is_hex (slice_index cs from) && are_hex (from + 1) n

  -- how many characters the universal character name has that begins here, 0 where none does: `\u` and four hexadecimal
  -- digits, or `\U` and eight (6.4.3)
  abbrev pub universal_len : ℕ → ℕ
  universal_len from =
      if stands cs from 92 && stands cs (from + 1) 117 && are_hex (from + 2) 4 then 6 else
      if stands cs from 92 && stands cs (from + 1) 85 && are_hex (from + 2) 8 then 10 else 0

-- The operand of `#line` (N1570 6.10.4): a digit sequence, which is a number from 1 to 2147483647, and after it at most
-- one string literal without a prefix.
use Rattle.std.specs.Prelude.{ℕ, ◌+◌, ◌*◌, ◌-◌, ◌==◌, ◌&&◌, nat_le, Bool, true, false, if◌then◌else◌, List, [], ◌∷◌, Option, Some, None}
use Rattle.std.specs.List.{list_all}
use Rattle.cl_base.specs.declared.token.Kind.{Kind}
use Rattle.cl_base.specs.declared.token.Kind.TheVariants as kind
use Rattle.cl_base.specs.declared.token.PpToken.{PpToken}

abbrev pub is_digit : ℕ → Bool
is_digit byte = nat_le 48 byte && nat_le byte 57

-- the number that these digits are behind others
abbrev pub number_from : ℕ → List ℕ → ℕ
number_from n [] = n
number_from n (d ∷ ds) = number_from (10 * n + (d - 48)) ds

abbrev pub is_number_kind : Kind → Bool
is_number_kind kind.Number = true
is_number_kind _ = false

abbrev pub is_string_kind : Kind → Bool
is_string_kind kind.Str = true
is_string_kind _ = false

abbrev pub is_line_number : PpToken → Bool
is_line_number token = is_number_kind token.kind && (list_all is_digit token.text && (nat_le 1 (number_from 0 token.text) && nat_le (number_from 0 token.text) 2147483647))

abbrev pub begins_plain : List ℕ → Bool
begins_plain [] = false
begins_plain (byte ∷ bytes) = byte == 34

abbrev pub is_plain_string : PpToken → Bool
is_plain_string token = is_string_kind token.kind && begins_plain token.text

abbrev pub after_number : List PpToken → Option ℕ
after_number [] = None
after_number (b ∷ []) = if is_plain_string b then None else Some 1
after_number (b ∷ (c ∷ more)) = if is_plain_string b then Some 2 else Some 1

-- the first token that doesn't fit, by its number; that of the tokens, where one is missing
abbrev pub misfit : List PpToken → Option ℕ
misfit [] = Some 0
misfit (a ∷ more) = if is_line_number a then after_number more else Some 0

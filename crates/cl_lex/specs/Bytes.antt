-- The kinds of characters (N1570 6.4).
use Rattle.std.specs.Prelude.{ℕ, Bool, ◌||◌, ◌&&◌, ◌==◌, nat_le}

abbrev pub is_between : ℕ → ℕ → ℕ → Bool
is_between low high c = nat_le low c && nat_le c high

abbrev pub is_digit : ℕ → Bool
is_digit c = is_between 48 57 c

-- a hexadecimal digit (6.4.4.1)
abbrev pub is_hex : ℕ → Bool
is_hex c = is_digit c || is_between 65 70 c || is_between 97 102 c

-- a letter or `_` (6.4.2.1, nondigit)
abbrev pub is_name_start : ℕ → Bool
is_name_start c = is_between 65 90 c || is_between 97 122 c || c == 95

-- a letter, `_` or a digit
abbrev pub is_name_byte : ℕ → Bool
is_name_byte c = is_name_start c || is_digit c

-- white space within a line: tab, vertical tab, form feed, space (6.4p3)
abbrev pub is_blank : ℕ → Bool
is_blank c = c == 32 || c == 9 || c == 11 || c == 12

-- `e`, `E`, `p` or `P` (6.4.8)
abbrev pub is_exponent : ℕ → Bool
is_exponent c = c == 101 || c == 69 || c == 112 || c == 80

-- `+` or `-`
abbrev pub is_sign : ℕ → Bool
is_sign c = c == 43 || c == 45

-- `"` or `'`
abbrev pub is_quote : ℕ → Bool
is_quote c = c == 34 || c == 39

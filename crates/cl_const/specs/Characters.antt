-- Character constants (N1570 6.4.4.4).
use Rattle.std.specs.Prelude.{ℕ, ℤ, zero, suc, pos, ◌-ℤ◌, ◌+◌, ◌-◌, ◌^◌, ◌==◌, Bool, true, false, not, ◌&&◌, ◌||◌, if◌then◌else◌, nat_lt, nat_le, min, max, List, [], ◌∷◌, take, length, slice_index, slice_range, Option, Some, None}
use Rattle.std.specs.List.{list_all, prefix_len}
use Rattle.cl_const.specs.declared.number.Number.{Number}
use Rattle.cl_const.specs.declared.number.Number.TheVariants.{Signed, Unsigned}
use Rattle.cl_const.specs.declared.integers.Base.{Base}
use Rattle.cl_const.specs.declared.integers.Base.TheVariants.{Octal, Hexadecimal}
use Rattle.cl_const.specs.declared.char_type.CharType.{CharType}
use Rattle.cl_const.specs.declared.char_type.CharType.TheVariants.{Plain, Wide, Char16, Char32}
use Rattle.cl_const.specs.declared.escape.Code.{Code}
use Rattle.cl_const.specs.declared.escape.Code.TheVariants.{Element, Character}
use Rattle.cl_const.specs.declared.characters.Constant.{Constant}
use Rattle.cl_const.specs.declared.characters.Constant.TheVariants.{Known, Unknown}
use Rattle.cl_base.specs.Characters.{char_len, is_between}
use Rattle.cl_const.specs.Integers.{is_digit, digits_value}
use Rattle.cl_const.specs.Utf8.{code_point}

-- ---- the types, by the prefix `L`, `u` or `U` (6.4.4.4p9 to p11)

abbrev pub char_type_of : List ℕ → CharType
char_type_of [] = Plain
char_type_of (byte ∷ text) = if byte == 76 then Wide else if byte == 117 then Char16 else if byte == 85 then Char32 else Plain

-- how many bytes stand before the first quote
abbrev pub front_of : CharType → ℕ
front_of Plain = 0
front_of _ = 1

-- `char16_t` and `char32_t` are unsigned
abbrev pub is_unsigned_char : CharType → Bool
is_unsigned_char Plain = false
is_unsigned_char Wide = false
is_unsigned_char Char16 = true
is_unsigned_char Char32 = true

-- the greatest code of the unsigned type that goes with it (6.4.4.4p9)
abbrev pub limit : CharType → ℕ
limit Plain = 2 ^ 8 - 1
limit Wide = 2 ^ 32 - 1
limit Char16 = 2 ^ 16 - 1
limit Char32 = 2 ^ 32 - 1

-- a code in a signed type of this many values of each sign
abbrev pub signed_from : ℕ → ℕ → ℤ
signed_from code half = if nat_lt code half then pos code else pos code -ℤ pos (half + half)

abbrev pub in_type : CharType → ℕ → Number
in_type Plain code = Signed (signed_from code (2 ^ 7))
in_type Wide code = Signed (signed_from code (2 ^ 31))
in_type _ code = Unsigned code

-- ---- one c-char

-- a simple-escape-sequence, without its backslash
abbrev pub simple_escape : ℕ → Option ℕ
simple_escape byte =
    if byte == 39 || byte == 34 || byte == 63 || byte == 92 then Some byte
    else if byte == 97 then Some 7
    else if byte == 98 then Some 8
    else if byte == 116 then Some 9
    else if byte == 110 then Some 10
    else if byte == 118 then Some 11
    else if byte == 102 then Some 12
    else if byte == 114 then Some 13
    else None

abbrev pub are_digits : Base → List ℕ → Bool
are_digits base digits = list_all (λ byte. is_digit base byte) digits

abbrev pub is_empty : List ℕ → Bool
is_empty [] = true
is_empty (x ∷ xs) = false

abbrev pub digits_within : Base → List ℕ → Option ℕ
digits_within base digits =
    if is_empty digits || not (are_digits base digits) then None
    else if nat_lt (digits_value base digits) (2 ^ 64) then Some (digits_value base digits)
    else None

-- a character that a universal character name may name (6.4.3p2)
abbrev pub may_be_named : ℕ → Bool
may_be_named code = (code == 36 || code == 64 || code == 96) || (is_between 160 1114111 code && not (is_between 55296 57343 code))

abbrev pub as_element : Option ℕ → Option Code
as_element None = None
as_element (Some value) = Some (Element value)

abbrev pub as_character : Option ℕ → Option Code
as_character None = None
as_character (Some code) = Some (Character code)

abbrev pub named : Option ℕ → Option Code
named None = None
named (Some code) = if may_be_named code then Some (Character code) else None

-- a universal-character-name of so many digits, without what stands before them (6.4.3)
abbrev pub universal : ℕ → List ℕ → Option Code
universal count digits = if length digits == count then named (digits_within Hexadecimal digits) else None

-- an octal-escape-sequence: one digit to three
abbrev pub octal : List ℕ → Option Code
octal digits = if nat_le (length digits) 3 then as_element (digits_within Octal digits) else None

abbrev pub simple : ℕ → List ℕ → Option Code
simple byte more = if is_empty more then as_character (simple_escape byte) else None

-- an escape-sequence, without its backslash
abbrev pub escape : List ℕ → Option Code
escape [] = None
escape (byte ∷ more) =
    if byte == 120 then as_element (digits_within Hexadecimal more)
    else if byte == 117 then universal 4 more
    else if byte == 85 then universal 8 more
    else if is_digit Octal byte then octal (byte ∷ more)
    else simple byte more

-- a character of ASCII, but no quote and no line's end
abbrev pub one_byte : ℕ → Option ℕ
one_byte byte = if nat_lt byte 128 && (not (byte == 39) && not (byte == 10)) then Some byte else None

-- what a c-char is, by its spelling: an escape-sequence, or a character
abbrev pub code_of : List ℕ → Option Code
code_of [] = None
code_of (byte ∷ more) = if byte == 92 then escape more else as_character (if is_empty more then one_byte byte else code_point (byte ∷ more))

-- ---- a c-char-sequence

-- how long an escape-sequence is without its backslash, if one begins there: each is the longest that can be (6.4.4.4p7)
abbrev pub escape_len : List ℕ → ℕ
escape_len [] = 0
escape_len (byte ∷ more) =
    if byte == 120 then 1 + prefix_len (is_digit Hexadecimal) more
    else if byte == 117 then 5
    else if byte == 85 then 9
    else if is_digit Octal byte then min 3 (prefix_len (is_digit Octal) (byte ∷ more))
    else 1

-- how long a c-char is, if one begins there. A byte at which no character begins stands alone, and is none
abbrev pub c_char_len : List ℕ → ℕ
c_char_len [] = 0
c_char_len (byte ∷ more) = if byte == 92 then 1 + escape_len more else max (char_len (byte ∷ more) 0) 1

-- the value of an octal or hexadecimal escape is one of the unsigned type (6.4.4.4p9)
abbrev pub fits : CharType → Code → Bool
fits t (Element value) = nat_le value (limit t)
fits t (Character code) = true

abbrev pub stands : CharType → Option Code → Bool
stands t None = false
stands t (Some code) = fits t code

-- one c-char follows the other up to the end, where so many bytes belong to what is before
abbrev pub are_chars : CharType → ℕ → List ℕ → Bool
are_chars t n [] = true
are_chars t (suc n) (byte ∷ text) = are_chars t n text
are_chars t zero (byte ∷ text) = stands t (code_of (take (c_char_len (byte ∷ text)) (byte ∷ text))) && are_chars t (c_char_len (byte ∷ text) - 1) text

-- ---- the constant

-- the last character that is one element: in UTF-8, whose bytes a plain constant has as its elements, in UTF-16, and in
-- UTF-32
abbrev pub last_single : CharType → ℕ
last_single Plain = 2 ^ 7 - 1
last_single Wide = 1114111
last_single Char16 = 2 ^ 16 - 1
last_single Char32 = 1114111

-- whether a c-char is one element. An octal or hexadecimal escape is
abbrev pub is_single : CharType → Code → Bool
is_single t (Element value) = nat_le value (limit t)
is_single t (Character code) = nat_le code (last_single t)

abbrev pub number_of : Code → ℕ
number_of (Element value) = value
number_of (Character code) = code

-- the constant of one c-char: the value of several elements isn't known (6.4.4.4p10, implementation-defined)
abbrev pub alone : CharType → Code → Constant
alone t code = if is_single t code then Known (in_type t (number_of code)) else Unknown (is_unsigned_char t)

abbrev pub alone_by : CharType → Option Code → Option Constant
alone_by t None = None
alone_by t (Some code) = Some (alone t code)

-- the constant of a c-char-sequence
abbrev pub constant_of : CharType → List ℕ → Option Constant
constant_of t body =
    if is_empty body || not (are_chars t 0 body) then None
    else if nat_le (length body) (c_char_len body) then alone_by t (code_of body)
    else Some (Unknown (is_unsigned_char t))

-- a quote stands behind the prefix, and another one at the end
abbrev pub is_quoted : List ℕ → ℕ → Bool
is_quoted text front = nat_le (front + 2) (length text) && (slice_index text front == 39 && slice_index text (length text - 1) == 39)

-- the constant of this spelling
abbrev pub character : List ℕ → Option Constant
character text =
    let t = char_type_of text in
    let front = front_of t in
    if is_quoted text front then constant_of t (slice_range text (front + 1) (length text - 1)) else None

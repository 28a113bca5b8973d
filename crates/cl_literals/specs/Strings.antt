-- Character constants and string literals (N1570 6.4.4.4, 6.4.5): their prefixes, types, escapes and elements.
use Rattle.std.specs.Prelude.{ℕ, zero, suc, ◌+◌, ◌-◌, ◌==◌, Bool, false, not, ◌&&◌, if◌then◌else◌, nat_lt, nat_le, List, [], ◌∷◌, length, map, take, slice_range, Option, Some, None, ℤ, pos, sum}
use Rattle.std.specs.List.{list_any}
use Rattle.cl_const.specs.declared.char_type.CharType.{CharType}
use Rattle.cl_const.specs.declared.char_type.CharType.TheVariants as chars
use Rattle.cl_const.specs.declared.escape.Code.{Code}
use Rattle.cl_const.specs.declared.escape.Code.TheVariants.{Character}
use Rattle.cl_const.specs.declared.characters.Constant.{Constant}
use Rattle.cl_const.specs.declared.characters.Constant.TheVariants.{Known}
use Rattle.cl_const.specs.declared.number.Number.TheVariants.{Signed, Unsigned}
use Rattle.cl_const.specs.Characters.{c_char_len, character, code_of, stands}
use Rattle.cl_types.specs.declared.types.Basic.{Basic}
use Rattle.cl_types.specs.declared.types.Basic.TheVariants as basic
use Rattle.cl_literals.specs.declared.strings.Prefix.{Prefix}
use Rattle.cl_literals.specs.declared.strings.Prefix.TheVariants.{Plain, Utf8, Wide, Char16, Char32}

-- ---- prefixes (6.4.5p1, 6.4.4.4p1)

abbrev pub one_letter : ℕ → Prefix
one_letter byte = if byte == 76 then Wide else if byte == 117 then Char16 else if byte == 85 then Char32 else Plain

-- the prefix of a literal, by its first two bytes
abbrev pub prefix_of : List ℕ → Prefix
prefix_of [] = Plain
prefix_of (a ∷ []) = one_letter a
prefix_of (a ∷ b ∷ more) = if a == 117 && b == 56 then Utf8 else one_letter a

abbrev pub prefix_len : Prefix → ℕ
prefix_len Plain = 0
prefix_len Utf8 = 2
prefix_len _ = 1

-- the type whose values a literal's elements are
abbrev pub unit : Prefix → CharType
unit Wide = chars.Wide
unit Char16 = chars.Char16
unit Char32 = chars.Char32
unit _ = chars.Plain

-- the type of a string literal's elements: `wchar_t` is `int`, `char16_t` `unsigned short`, `char32_t` `unsigned int` (6.4.5p6)
abbrev pub element_type : Prefix → Basic
element_type Wide = basic.Int
element_type Char16 = basic.UShort
element_type Char32 = basic.UInt
element_type _ = basic.Char

-- the type of a character constant (6.4.4.4p10, p11): without a prefix `int`
abbrev pub constant_type : Prefix → Basic
constant_type Char16 = basic.UShort
constant_type Char32 = basic.UInt
constant_type _ = basic.Int

-- ---- what stands between the quotes

abbrev pub body : List ℕ → List ℕ
body text =
    let front = prefix_len (prefix_of text) in
    if nat_le (front + 2) (length text) then slice_range text (front + 1) (length text - 1) else []

-- the spellings of its characters and escape sequences, in order, where so many bytes belong to what is before
abbrev pub characters : ℕ → List ℕ → List (List ℕ)
characters n [] = []
characters (suc n) (byte ∷ text) = characters n text
characters zero (byte ∷ text) = take (c_char_len (byte ∷ text)) (byte ∷ text) ∷ characters (c_char_len (byte ∷ text) - 1) text

abbrev pub begins_escape : List ℕ → Bool
begins_escape [] = false
begins_escape (byte ∷ more) = byte == 92

-- an escape sequence that is none of 6.4.4.4, or an octal or hexadecimal one that the element's type doesn't hold
abbrev pub is_bad_escape : CharType → List ℕ → Bool
is_bad_escape t spelled = begins_escape spelled && not (stands t (code_of spelled))

abbrev pub has_bad_escape : CharType → List ℕ → Bool
has_bad_escape t text = list_any (λ spelled. is_bad_escape t spelled) (characters 0 (body text))

-- ---- values and elements

abbrev pub value_of : Option Constant → Option ℤ
value_of (Some (Known (Signed z))) = Some z
value_of (Some (Known (Unsigned n))) = Some (pos n)
value_of _ = None

-- the value of a character constant, if it is one element
abbrev pub char_value : List ℕ → Option ℤ
char_value text = value_of (character text)

-- how many bytes UTF-8 has for a character, and how many units UTF-16 has
abbrev pub utf8_len : ℕ → ℕ
utf8_len code = if nat_lt code 128 then 1 else if nat_lt code 2048 then 2 else if nat_lt code 65536 then 3 else 4

abbrev pub utf16_len : ℕ → ℕ
utf16_len code = if nat_lt code 65536 then 1 else 2

-- how many elements a character makes: bytes of UTF-8, units of UTF-16, or one of UTF-32 (6.4.5p6)
abbrev pub units : CharType → ℕ → ℕ
units chars.Plain code = utf8_len code
units chars.Char16 code = utf16_len code
units _ code = 1

-- an escape of one element is one, and so is what is no character and no escape sequence; so the single quote, which is no
-- character of a character constant, is one
abbrev pub units_of : CharType → Option Code → ℕ
units_of t (Some (Character code)) = units t code
units_of t _ = 1

abbrev pub units_in : CharType → List ℕ → ℕ
units_in t spelled = units_of t (code_of spelled)

-- how many elements the text of a string literal makes, without the closing zero
abbrev pub count : CharType → List ℕ → ℕ
count t text = sum (map (units_in t) (characters 0 (body text)))

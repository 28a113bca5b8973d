-- Integer constants (N1570 6.4.4.1), as `#if` has them.
use Rattle.std.specs.Prelude.{◌≡◌, ◌≢◌, ◌⊎◌, ◌++◌, ℕ, pos, ◌+◌, ◌-◌, ◌*◌, ◌^◌, ◌==◌, Bool, true, false, not, ◌&&◌, ◌||◌, if◌then◌else◌, nat_lt, nat_eq, List, [], ◌∷◌, take, drop, codes, Option, Some, None}
use Rattle.std.specs.List.{list_all, list_any, prefix_len, fold}
use Rattle.std.specs.Cmp.Lexicographic.{pointwise}
use Rattle.cl_base.specs.Characters.{is_between}
use Rattle.cl_const.specs.declared.number.Number.{Number}
use Rattle.cl_const.specs.declared.number.Number.TheVariants.{Signed, Unsigned}
use Rattle.cl_const.specs.declared.integers.Base.{Base}
use Rattle.cl_const.specs.declared.integers.Base.TheVariants.{Octal, Decimal, Hexadecimal}

-- `0x` or `0X` begins a hexadecimal-constant, another `0` an octal-constant, and anything else a decimal-constant
abbrev pub base_of : List ℕ → Base
base_of (a ∷ b ∷ text) = if a == 48 then (if b == 120 || b == 88 then Hexadecimal else Octal) else Decimal
base_of (a ∷ []) = if a == 48 then Octal else Decimal
base_of [] = Decimal

abbrev pub front_len : Base → ℕ
front_len Hexadecimal = 2
front_len _ = 0

abbrev pub radix : Base → ℕ
radix Octal = 8
radix Decimal = 10
radix Hexadecimal = 16

abbrev pub is_digit : Base → ℕ → Bool
is_digit Octal byte = is_between 48 55 byte
is_digit Decimal byte = is_between 48 57 byte
is_digit Hexadecimal byte = is_between 48 57 byte || is_between 65 70 byte || is_between 97 102 byte

abbrev pub digit : ℕ → ℕ
digit byte = if is_between 48 57 byte then byte - 48 else if is_between 65 70 byte then byte - 65 + 10 else if is_between 97 102 byte then byte - 97 + 10 else 0

-- the first digit counts most
abbrev pub digits_value : Base → List ℕ → ℕ
digits_value base digits = fold (λ value byte. value * radix base + digit byte) 0 digits

unfoldable pub signed_suffixes : List (List ℕ)
signed_suffixes = [] ∷ codes "l" ∷ codes "L" ∷ codes "ll" ∷ codes "LL" ∷ []

unfoldable pub unsigned_suffixes : List (List ℕ)
unsigned_suffixes =
    codes "u" ∷ codes "U" ∷ codes "ul" ∷ codes "uL" ∷ codes "Ul" ∷ codes "UL" ∷ codes "lu" ∷ codes "lU" ∷ codes "Lu" ∷ codes "LU" ∷ codes "ull" ∷ codes "uLL" ∷ codes "Ull" ∷
    codes "ULL" ∷ codes "llu" ∷ codes "llU" ∷ codes "LLu" ∷ codes "LLU" ∷ []

abbrev pub is_among : List (List ℕ) → List ℕ → Bool
is_among words text = list_any (λ word. pointwise nat_eq word text) words

-- whether the suffix is one of unsigned constants; none where it is no suffix
unfoldable pub suffix_unsigned : List ℕ → Option Bool
suffix_unsigned suffix = if is_among signed_suffixes suffix then Some false else if is_among unsigned_suffixes suffix then Some true else None

abbrev pub is_decimal : Base → Bool
is_decimal Decimal = true
is_decimal _ = false

-- the constant of this value, by the list of types (6.4.4.1p5), each of 64 bits (6.10.1p4)
abbrev pub typed : Base → Bool → ℕ → Option Number
typed base unsigned value =
    if not unsigned && nat_lt value (2 ^ 63) then Some (Signed (pos value))
    else if nat_lt value (2 ^ 64) && (unsigned || not (is_decimal base)) then Some (Unsigned value)
    else None

abbrev pub typed_by : Base → Option Bool → ℕ → Option Number
typed_by base None value = None
typed_by base (Some unsigned) value = typed base unsigned value

-- the front of the base, one digit or more, and a suffix
abbrev pub integer : List ℕ → Option Number
integer text =
    let base = base_of text in
    let rest = drop (front_len base) text in
    let count = prefix_len (is_digit base) rest in
    if count == 0 then None else typed_by base (suffix_unsigned (drop count rest)) (digits_value base (take count rest))

-- ---- the same by the grammar

-- a hexadecimal-prefix, or nothing
abbrev pub IsFront : Base → List ℕ → Type 0
IsFront Hexadecimal front = (front ≡ codes "0x") ⊎ (front ≡ codes "0X")
IsFront _ front = front ≡ []

-- `0` begins an octal-constant, and a nonzero-digit a decimal-constant
abbrev pub IsFirst : Base → ℕ → Type 0
IsFirst Octal d = d ≡ 48
IsFirst Decimal d = d ≢ 48
IsFirst Hexadecimal d = Unit {0}

-- one digit or more
abbrev pub AreDigits : Base → List ℕ → Type 0
AreDigits base [] = ⊥
AreDigits base (d ∷ digits) = IsFirst base d × (list_all (is_digit base) (d ∷ digits) ≡ true)

-- an integer-constant that has a type, and its value
pub record IsInteger (text : List ℕ) (n : Number) : Type 0 where
  pub base : Base
  pub front : List ℕ
  pub digits : List ℕ
  pub suffix : List ℕ
  pub unsigned : Bool
  pub parts : text ≡ front ++ (digits ++ suffix)
  pub begins : IsFront base front
  pub counts : AreDigits base digits
  pub ends : suffix_unsigned suffix ≡ Some unsigned
  pub types : typed base unsigned (digits_value base digits) ≡ Some n

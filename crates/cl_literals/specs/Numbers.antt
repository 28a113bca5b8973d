-- Numbers as constants: integer constants (N1570 6.4.4.1) and floating constants (6.4.4.2), each with its type.
use Rattle.std.specs.Prelude.{ℕ, ◌+◌, ◌^◌, ◌==◌, Bool, true, false, not, ◌&&◌, ◌||◌, if◌then◌else◌, nat_lt, nat_le, List, [], ◌∷◌, take, drop, Option, Some, None}
use Rattle.std.specs.List.{prefix_len}
use Rattle.cl_const.specs.declared.integers.Base.{Base}
use Rattle.cl_const.specs.declared.integers.Base.TheVariants.{Decimal, Hexadecimal}
use Rattle.cl_const.specs.Integers.{base_of, digits_value, front_len, is_decimal, is_digit}
use Rattle.cl_types.specs.declared.types.Basic.{Basic}
use Rattle.cl_types.specs.declared.types.Basic.TheVariants.{Int, UInt, Long, ULong, LLong, ULLong, Float, Double, LDouble}
use Rattle.cl_literals.specs.declared.numbers.Suffix.{Suffix}
use Rattle.cl_literals.specs.declared.numbers.NumberConstant.{NumberConstant}
use Rattle.cl_literals.specs.declared.numbers.NumberConstant.TheVariants.{Integer, Floating, TooLarge, NoConstant}

-- ---- integer constants

-- `u` or `U`
abbrev pub is_u : ℕ → Bool
is_u byte = byte == 117 || byte == 85

-- `l` or `L`
abbrev pub is_l : ℕ → Bool
is_l byte = byte == 108 || byte == 76

-- `ll` or `LL`
abbrev pub is_ll : ℕ → ℕ → Bool
is_ll a b = (a == 108 && b == 108) || (a == 76 && b == 76)

abbrev pub ends : Bool → ℕ → Option Suffix
ends unsigned longs = Some (record { unsigned = unsigned; longs = longs })

-- an integer-suffix, or nothing: `u` and one of `l`, `ll`, each once at most, in either order
abbrev pub suffix_of : List ℕ → Option Suffix
suffix_of [] = ends false 0
suffix_of (a ∷ []) = if is_u a then ends true 0 else if is_l a then ends false 1 else None
suffix_of (a ∷ b ∷ []) = if is_ll a b then ends false 2 else if (is_u a && is_l b) || (is_l a && is_u b) then ends true 1 else None
suffix_of (a ∷ b ∷ c ∷ []) = if (is_u a && is_ll b c) || (is_ll a b && is_u c) then ends true 2 else None
suffix_of _ = None

-- the types of 6.4.4.1p5, in their order
abbrev pub types : List Basic
types = Int ∷ UInt ∷ Long ∷ ULong ∷ LLong ∷ ULLong ∷ []

abbrev pub is_unsigned : Basic → Bool
is_unsigned UInt = true
is_unsigned ULong = true
is_unsigned ULLong = true
is_unsigned _ = false

-- how many `long`s a type has
abbrev pub longs_of : Basic → ℕ
longs_of Int = 0
longs_of UInt = 0
longs_of Long = 1
longs_of ULong = 1
longs_of _ = 2

-- the first number that a type doesn't hold: `int` has 32 bits, and the others that are no `unsigned int` 64
abbrev pub bound : Basic → ℕ
bound Int = 2 ^ 31
bound UInt = 2 ^ 32
bound Long = 2 ^ 63
bound LLong = 2 ^ 63
bound _ = 2 ^ 64

-- the list of a constant: `u` leaves the unsigned types, a decimal one without it has the signed ones alone; `l` begins at
-- `long`, `ll` at `long long`
abbrev pub may_have : Base → Suffix → Basic → Bool
may_have base suffix t = nat_le suffix.longs (longs_of t) && (if is_unsigned t then suffix.unsigned || not (is_decimal base) else not suffix.unsigned)

abbrev pub first_in : List Basic → Base → Suffix → ℕ → Option Basic
first_in [] base suffix value = None
first_in (t ∷ ts) base suffix value = if may_have base suffix t && nat_lt value (bound t) then Some t else first_in ts base suffix value

-- the first type of its list that holds the value
abbrev pub first_type : Base → Suffix → ℕ → Option Basic
first_type base suffix value = first_in types base suffix value

abbrev pub with_type : ℕ → Option Basic → NumberConstant
with_type value (Some t) = Integer value t
with_type value None = TooLarge

-- ---- floating constants

-- the digits are hexadecimal behind `0x`, and decimal elsewhere
abbrev pub floating_base : Base → Base
floating_base Hexadecimal = Hexadecimal
floating_base _ = Decimal

-- a point and the digits behind it
abbrev pub fraction_len : Base → List ℕ → ℕ
fraction_len base [] = 0
fraction_len base (a ∷ more) = if a == 46 then 1 + prefix_len (is_digit base) more else 0

-- `p` or `P` in a hexadecimal one, `e` or `E` in a decimal one
abbrev pub is_marker : Base → ℕ → Bool
is_marker Hexadecimal byte = byte == 112 || byte == 80
is_marker _ byte = byte == 101 || byte == 69

abbrev pub sign_len : List ℕ → ℕ
sign_len [] = 0
sign_len (a ∷ more) = if a == 43 || a == 45 then 1 else 0

-- an exponent's sign and digits, if it has a digit
abbrev pub power_len : List ℕ → ℕ
power_len text =
    let digits = prefix_len (is_digit Decimal) (drop (sign_len text) text) in
    if digits == 0 then 0 else sign_len text + digits

abbrev pub marked : ℕ → ℕ
marked n = if n == 0 then 0 else 1 + n

-- an exponent-part, if one stands there
abbrev pub exponent_len : Base → List ℕ → ℕ
exponent_len base [] = 0
exponent_len base (a ∷ more) = if is_marker base a then marked (power_len more) else 0

-- a floating-suffix, or nothing
abbrev pub floating_suffix : List ℕ → Option Basic
floating_suffix [] = Some Double
floating_suffix (a ∷ []) = if a == 102 || a == 70 then Some Float else if is_l a then Some LDouble else None
floating_suffix _ = None

-- a digit stands before the point or behind it, and a decimal one has a point or an exponent, a hexadecimal one an exponent
abbrev pub is_floating : Base → ℕ → ℕ → ℕ → Bool
is_floating base whole fraction exponent = (nat_lt 0 whole || nat_lt 1 fraction) && (nat_lt 0 exponent || (is_decimal base && nat_lt 0 fraction))

-- what stands behind the front: digits, a fraction, an exponent and a suffix
abbrev pub floating_in : Base → List ℕ → Option Basic
floating_in base rest =
    let whole = prefix_len (is_digit base) rest in
    let fraction = fraction_len base (drop whole rest) in
    let exponent = exponent_len base (drop (whole + fraction) rest) in
    if is_floating base whole fraction exponent then floating_suffix (drop (whole + fraction + exponent) rest) else None

-- the type of a floating constant; none where the text is none
abbrev pub floating : List ℕ → Option Basic
floating text = floating_in (floating_base (base_of text)) (drop (front_len (base_of text)) text)

-- ---- numbers

abbrev pub otherwise : Option Basic → NumberConstant
otherwise (Some t) = Floating t
otherwise None = NoConstant

abbrev pub by_suffix : Base → ℕ → Option Suffix → Option Basic → NumberConstant
by_suffix base value (Some suffix) other = with_type value (first_type base suffix value)
by_suffix base value None other = otherwise other

-- what a preprocessing number is as a constant
abbrev pub number : List ℕ → NumberConstant
number text =
    let base = base_of text in
    let rest = drop (front_len base) text in
    let count = prefix_len (is_digit base) rest in
    if count == 0 then otherwise (floating text)
    else by_suffix base (digits_value base (take count rest)) (suffix_of (drop count rest)) (floating text)

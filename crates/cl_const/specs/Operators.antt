-- The operators of `#if` (N1570 6.5.3 to 6.5.14) on numbers. None says that the operation fails.
use Rattle.std.specs.Prelude.{◌≡◌, ℕ, ℤ, pos, negsuc, ◌+◌, ◌-◌, ◌*◌, ◌/◌, ◌%◌, ◌^◌, ◌<◌, ◌==◌, ◌+ℤ◌, ◌-ℤ◌, ◌*ℤ◌, Bool, true, false, not, ◌&&◌, ◌||◌, if◌then◌else◌, nat_lt, nat_le, bit_and, bit_or, bit_xor, Option, Some, None}
use Rattle.std.specs.Int.{cast_signed, w64}
use Rattle.std.specs.Int.RustNames.{int_lt, int_le, int_div, int_rem}
use Rattle.cl_const.specs.declared.number.Number.{Number}
use Rattle.cl_const.specs.declared.number.Number.TheVariants.{Signed, Unsigned}
use Rattle.cl_const.specs.declared.number.Pair.{Pair}
use Rattle.cl_const.specs.declared.number.Pair.TheVariants as pair
use Rattle.cl_const.specs.declared.operators.Operator.{Operator}
use Rattle.cl_const.specs.declared.operators.Operator.TheVariants as op
use Rattle.cl_const.specs.Numbers.{as_unsigned, common, fit, fits, is_true, is_unsigned, is_zero, truth}

-- how tight the operator binds between two operands: 2 is the logical OR expression (6.5.14), 11 the multiplicative one
-- (6.5.5). 0 where it never stands between two.
abbrev pub infix_level : Operator → ℕ
infix_level op.Or = 2
infix_level op.And = 3
infix_level op.BitOr = 4
infix_level op.BitXor = 5
infix_level op.BitAnd = 6
infix_level op.Equal = 7
infix_level op.NotEqual = 7
infix_level op.Less = 8
infix_level op.Greater = 8
infix_level op.LessEqual = 8
infix_level op.GreaterEqual = 8
infix_level op.ShiftLeft = 9
infix_level op.ShiftRight = 9
infix_level op.Plus = 10
infix_level op.Minus = 10
infix_level op.Times = 11
infix_level op.Divide = 11
infix_level op.Remainder = 11
infix_level op.Complement = 0
infix_level op.Not = 0

-- a unary-operator (6.5.3); `&` and `*` have no constant operand
abbrev pub is_prefix : Operator → Bool
is_prefix op.Plus = true
is_prefix op.Minus = true
is_prefix op.Complement = true
is_prefix op.Not = true
is_prefix _ = false

-- unsigned results are what they are modulo 2 ^ 64 (6.2.5p9)
abbrev pub negate : Number → Option Number
negate (Signed x) = fit (pos 0 -ℤ x)
negate (Unsigned m) = Some (Unsigned ((2 ^ 64 - m) % 2 ^ 64))

abbrev pub complement : Number → Number
complement (Signed x) = Signed (negsuc 0 -ℤ x)
complement (Unsigned m) = Unsigned (2 ^ 64 - 1 - m)

abbrev pub apply_prefix : Operator → Number → Option Number
apply_prefix op.Minus n = negate n
apply_prefix op.Complement n = Some (complement n)
apply_prefix op.Not n = Some (truth (not (is_true n)))
apply_prefix _ n = Some n

abbrev pub add : Pair → Option Number
add (pair.Signed x y) = fit (x +ℤ y)
add (pair.Unsigned m n) = Some (Unsigned ((m + n) % 2 ^ 64))

abbrev pub subtract : Pair → Option Number
subtract (pair.Signed x y) = fit (x -ℤ y)
subtract (pair.Unsigned m n) = Some (Unsigned ((m + (2 ^ 64 - n)) % 2 ^ 64))

abbrev pub multiply : Pair → Option Number
multiply (pair.Signed x y) = fit (x *ℤ y)
multiply (pair.Unsigned m n) = Some (Unsigned ((m * n) % 2 ^ 64))

-- the quotient is cut off toward zero (6.5.5p6)
abbrev pub divide : Pair → Option Number
divide (pair.Signed x y) = if is_zero y then None else fit (int_div x y)
divide (pair.Unsigned m n) = if n == 0 then None else Some (Unsigned (m / n))

-- where the quotient overflows there is none
abbrev pub remainder : Pair → Option Number
remainder (pair.Signed x y) = if is_zero y || not (fits (int_div x y)) then None else Some (Signed (int_rem x y))
remainder (pair.Unsigned m n) = if n == 0 then None else Some (Unsigned (m % n))

abbrev pub mask_bits : Operator → ℕ → ℕ → ℕ
mask_bits op.BitOr m n = bit_or m n
mask_bits op.BitXor m n = bit_xor m n
mask_bits _ m n = bit_and m n

abbrev pub mask : Operator → Number → Number → Number
mask o x y =
    let bits = mask_bits o (as_unsigned x) (as_unsigned y) in
    if is_unsigned x || is_unsigned y then Unsigned bits else Signed (cast_signed w64 bits)

abbrev pub compare_signed : Operator → ℤ → ℤ → Bool
compare_signed op.Less x y = int_lt x y
compare_signed op.Greater x y = int_lt y x
compare_signed op.LessEqual x y = int_le x y
compare_signed op.GreaterEqual x y = int_le y x
compare_signed op.NotEqual x y = not (int_le x y && int_le y x)
compare_signed _ x y = int_le x y && int_le y x

abbrev pub compare_unsigned : Operator → ℕ → ℕ → Bool
compare_unsigned op.Less m n = nat_lt m n
compare_unsigned op.Greater m n = nat_lt n m
compare_unsigned op.LessEqual m n = nat_le m n
compare_unsigned op.GreaterEqual m n = nat_le n m
compare_unsigned op.NotEqual m n = not (m == n)
compare_unsigned _ m n = m == n

abbrev pub compare : Operator → Pair → Bool
compare o (pair.Signed x y) = compare_signed o x y
compare o (pair.Unsigned m n) = compare_unsigned o m n

-- how far a shift goes (6.5.7p3)
abbrev pub count_within : ℕ → Option ℕ
count_within n = if nat_lt n 64 then Some n else None

abbrev pub count_of : Number → Option ℕ
count_of (Signed (pos n)) = count_within n
count_of (Signed (negsuc n)) = None
count_of (Unsigned n) = count_within n

abbrev pub IsCount : Option ℕ → Type 0
IsCount None = Unit {0}
IsCount (Some n) = n < 64

-- the result's type is that of the left operand (6.5.7)
abbrev pub left_shift : Number → Option ℕ → Option Number
left_shift x None = None
left_shift (Signed x) (Some count) = fit (x *ℤ pos (2 ^ count))
left_shift (Unsigned m) (Some count) = Some (Unsigned ((m * 2 ^ count) % 2 ^ 64))

-- the quotient by that power of two, rounded down
abbrev pub halved : ℤ → ℕ → ℤ
halved (pos n) count = pos (n / 2 ^ count)
halved (negsuc n) count = negsuc (n / 2 ^ count)

abbrev pub right_shift : Number → Option ℕ → Option Number
right_shift x None = None
right_shift (Signed x) (Some count) = Some (Signed (halved x count))
right_shift (Unsigned m) (Some count) = Some (Unsigned (m / 2 ^ count))

-- `&&` and `||` aren't among them: their right operand may not be worked
abbrev pub apply : Operator → Number → Number → Option Number
apply op.Plus x y = add (common x y)
apply op.Minus x y = subtract (common x y)
apply op.Times x y = multiply (common x y)
apply op.Divide x y = divide (common x y)
apply op.Remainder x y = remainder (common x y)
apply op.ShiftLeft x y = left_shift x (count_of y)
apply op.ShiftRight x y = right_shift x (count_of y)
apply op.BitOr x y = Some (mask op.BitOr x y)
apply op.BitXor x y = Some (mask op.BitXor x y)
apply op.BitAnd x y = Some (mask op.BitAnd x y)
apply o x y = Some (truth (compare o (common x y)))

-- ---- the types of results

-- of a unary operator (6.5.3.3): `!` gives an int, and the others the type of their operand
abbrev pub prefix_unsigned : Operator → Bool → Bool
prefix_unsigned op.Not unsigned = false
prefix_unsigned _ unsigned = unsigned

-- of an operator between two operands: that of both (6.3.1.8), of the left one of a shift (6.5.7), or `int`
abbrev pub infix_unsigned : Operator → Bool → Bool → Bool
infix_unsigned op.Plus left right = left || right
infix_unsigned op.Minus left right = left || right
infix_unsigned op.Times left right = left || right
infix_unsigned op.Divide left right = left || right
infix_unsigned op.Remainder left right = left || right
infix_unsigned op.BitOr left right = left || right
infix_unsigned op.BitXor left right = left || right
infix_unsigned op.BitAnd left right = left || right
infix_unsigned op.ShiftLeft left right = left
infix_unsigned op.ShiftRight left right = left
infix_unsigned _ left right = false

-- a value has this type
abbrev pub IsOfType : Bool → Option Number → Type 0
IsOfType unsigned None = Unit {0}
IsOfType unsigned (Some n) = is_unsigned n ≡ unsigned

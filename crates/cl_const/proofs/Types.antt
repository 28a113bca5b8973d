-- What an operator gives has the type that goes by those of its operands.
use Rattle.std.proofs.Common.{◌≡◌, ℕ, ℤ, pos, ◌/◌, ◌%◌, ◌^◌, Bool, true, false, not, ◌||◌, if◌then◌else◌, Option, Some, None, refl}
use Rattle.std.specs.Prelude.{◌==◌, ◌+ℤ◌, ◌-ℤ◌, ◌*ℤ◌}
use Rattle.std.specs.Int.RustNames.{int_div, int_rem}
use Rattle.std.specs.Int.{cast_unsigned, w64}
use Rattle.cl_const.specs.declared.number.Pair.TheVariants as pair
use Rattle.cl_const.specs.declared.number.Number.{Number}
use Rattle.cl_const.specs.declared.number.Number.TheVariants.{Signed, Unsigned}
use Rattle.cl_const.specs.declared.operators.Operator.{Operator}
use Rattle.cl_const.specs.declared.operators.Operator.TheVariants as op
use Rattle.cl_const.specs.Numbers.{common, fit, fits, is_true, is_unsigned, is_zero, truth}
use Rattle.cl_const.specs.Operators.{IsOfType, add, apply, apply_prefix, compare, count_of, divide, infix_unsigned, left_shift, mask, multiply, negate, prefix_unsigned, remainder, right_shift, subtract}

tested : (b : Bool) (u : Bool) (m n : Option Number) → IsOfType u m → IsOfType u n → IsOfType u (if b then m else n)
tested true u m n h k = h
tested false u m n h k = k

truth_type : (b : Bool) → is_unsigned (truth b) ≡ false
truth_type true = refl
truth_type false = refl

fit_type : (z : ℤ) → IsOfType false (fit z)
fit_type z = tested (fits z) false (Some (Signed z)) None refl tt

-- ---- one operand

negate_type : (x : Number) → IsOfType (is_unsigned x) (negate x)
negate_type (Signed x) = fit_type (pos 0 -ℤ x)
negate_type (Unsigned m) = refl

complement_type : (x : Number) → IsOfType (is_unsigned x) (apply_prefix op.Complement x)
complement_type (Signed x) = refl
complement_type (Unsigned m) = refl

pub prefix_type : (o : Operator) (x : Number) → IsOfType (prefix_unsigned o (is_unsigned x)) (apply_prefix o x)
prefix_type op.Minus x = negate_type x
prefix_type op.Complement x = complement_type x
prefix_type op.Not x = truth_type (not (is_true x))
prefix_type op.Plus x = refl
prefix_type op.Or x = refl
prefix_type op.And x = refl
prefix_type op.BitOr x = refl
prefix_type op.BitXor x = refl
prefix_type op.BitAnd x = refl
prefix_type op.Equal x = refl
prefix_type op.NotEqual x = refl
prefix_type op.Less x = refl
prefix_type op.Greater x = refl
prefix_type op.LessEqual x = refl
prefix_type op.GreaterEqual x = refl
prefix_type op.ShiftLeft x = refl
prefix_type op.ShiftRight x = refl
prefix_type op.Times x = refl
prefix_type op.Divide x = refl
prefix_type op.Remainder x = refl

-- ---- two operands

add_type : (x y : Number) → IsOfType (is_unsigned x || is_unsigned y) (add (common x y))
add_type (Signed x) (Signed y) = fit_type (x +ℤ y)
add_type (Signed x) (Unsigned n) = refl
add_type (Unsigned m) (Signed y) = refl
add_type (Unsigned m) (Unsigned n) = refl

subtract_type : (x y : Number) → IsOfType (is_unsigned x || is_unsigned y) (subtract (common x y))
subtract_type (Signed x) (Signed y) = fit_type (x -ℤ y)
subtract_type (Signed x) (Unsigned n) = refl
subtract_type (Unsigned m) (Signed y) = refl
subtract_type (Unsigned m) (Unsigned n) = refl

multiply_type : (x y : Number) → IsOfType (is_unsigned x || is_unsigned y) (multiply (common x y))
multiply_type (Signed x) (Signed y) = fit_type (x *ℤ y)
multiply_type (Signed x) (Unsigned n) = refl
multiply_type (Unsigned m) (Signed y) = refl
multiply_type (Unsigned m) (Unsigned n) = refl

divide_unsigned : (m n : ℕ) → IsOfType true (divide (pair.Unsigned m n))
divide_unsigned m n = tested (n == 0) true None (Some (Unsigned (m / n))) tt refl

divide_type : (x y : Number) → IsOfType (is_unsigned x || is_unsigned y) (divide (common x y))
divide_type (Signed x) (Signed y) = tested (is_zero y) false None (fit (int_div x y)) tt (fit_type (int_div x y))
divide_type (Signed x) (Unsigned n) = divide_unsigned (cast_unsigned w64 x) n
divide_type (Unsigned m) (Signed y) = divide_unsigned m (cast_unsigned w64 y)
divide_type (Unsigned m) (Unsigned n) = divide_unsigned m n

remainder_unsigned : (m n : ℕ) → IsOfType true (remainder (pair.Unsigned m n))
remainder_unsigned m n = tested (n == 0) true None (Some (Unsigned (m % n))) tt refl

remainder_type : (x y : Number) → IsOfType (is_unsigned x || is_unsigned y) (remainder (common x y))
remainder_type (Signed x) (Signed y) = tested (is_zero y || not (fits (int_div x y))) false None (Some (Signed (int_rem x y))) tt refl
remainder_type (Signed x) (Unsigned n) = remainder_unsigned (cast_unsigned w64 x) n
remainder_type (Unsigned m) (Signed y) = remainder_unsigned m (cast_unsigned w64 y)
remainder_type (Unsigned m) (Unsigned n) = remainder_unsigned m n

mask_type : (o : Operator) (x y : Number) → is_unsigned (mask o x y) ≡ (is_unsigned x || is_unsigned y)
mask_type o (Signed x) (Signed y) = refl
mask_type o (Signed x) (Unsigned n) = refl
mask_type o (Unsigned m) (Signed y) = refl
mask_type o (Unsigned m) (Unsigned n) = refl

left_type : (x : Number) (count : Option ℕ) → IsOfType (is_unsigned x) (left_shift x count)
left_type x None = tt
left_type (Signed x) (Some count) = fit_type (x *ℤ pos (2 ^ count))
left_type (Unsigned m) (Some count) = refl

right_type : (x : Number) (count : Option ℕ) → IsOfType (is_unsigned x) (right_shift x count)
right_type x None = tt
right_type (Signed x) (Some count) = refl
right_type (Unsigned m) (Some count) = refl

pub infix_type : (o : Operator) (x y : Number) → IsOfType (infix_unsigned o (is_unsigned x) (is_unsigned y)) (apply o x y)
infix_type op.Plus x y = add_type x y
infix_type op.Minus x y = subtract_type x y
infix_type op.Times x y = multiply_type x y
infix_type op.Divide x y = divide_type x y
infix_type op.Remainder x y = remainder_type x y
infix_type op.ShiftLeft x y = left_type x (count_of y)
infix_type op.ShiftRight x y = right_type x (count_of y)
infix_type op.BitOr x y = mask_type op.BitOr x y
infix_type op.BitXor x y = mask_type op.BitXor x y
infix_type op.BitAnd x y = mask_type op.BitAnd x y
infix_type op.Or x y = truth_type (compare op.Or (common x y))
infix_type op.And x y = truth_type (compare op.And (common x y))
infix_type op.Equal x y = truth_type (compare op.Equal (common x y))
infix_type op.NotEqual x y = truth_type (compare op.NotEqual (common x y))
infix_type op.Less x y = truth_type (compare op.Less (common x y))
infix_type op.Greater x y = truth_type (compare op.Greater (common x y))
infix_type op.LessEqual x y = truth_type (compare op.LessEqual (common x y))
infix_type op.GreaterEqual x y = truth_type (compare op.GreaterEqual (common x y))
infix_type op.Complement x y = truth_type (compare op.Complement (common x y))
infix_type op.Not x y = truth_type (compare op.Not (common x y))

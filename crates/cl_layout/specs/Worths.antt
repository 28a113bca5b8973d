-- What operations on integers of a type give, in constant expressions (N1570 6.3.1.2, 6.3.1.3, 6.5, 6.6). A value is one of 64 bits,
-- signed or not as its type is.
use Rattle.std.specs.Prelude.{◌*◌, ◌%◌, ◌^◌, ◌==◌, ◌&&◌, ◌||◌, not, Bool, true, false, if◌then◌else◌, nat_lt, Option, Some, None}
use Rattle.std.specs.Int.{cast_signed, w8, w16, w32, w64}
use Rattle.cl_const.specs.declared.number.Number.{Number}
use Rattle.cl_const.specs.declared.number.Number.TheVariants.{Signed, Unsigned}
use Rattle.cl_const.specs.declared.operators.Operator.{Operator}
use Rattle.cl_const.specs.declared.operators.Operator.TheVariants as op
use Rattle.cl_const.specs.Numbers.{as_unsigned, is_true, truth}
use Rattle.cl_const.specs.Operators.{apply, apply_prefix}
use Rattle.cl_types.specs.declared.expressions.BinaryOp.{BinaryOp}
use Rattle.cl_types.specs.declared.expressions.BinaryOp.TheVariants as binary
use Rattle.cl_types.specs.declared.expressions.UnaryOp.{UnaryOp}
use Rattle.cl_types.specs.declared.expressions.UnaryOp.TheVariants as unary
use Rattle.cl_types.specs.declared.types.Basic.{Basic}
use Rattle.cl_types.specs.declared.types.Basic.TheVariants as basic
use Rattle.cl_types.specs.declared.types.CType.{CType}
use Rattle.cl_types.specs.Kinds.{arithmetic, is_integer_kind}
use Rattle.cl_types.specs.Usual.{usual_basic}
use Rattle.cl_layout.specs.declared.worth.Worth.{Worth}
use Rattle.cl_layout.specs.declared.worth.Worth.TheVariants.{Fails, Unknown, Known}
use Rattle.cl_layout.specs.Layouts.{bytes}

-- the integer type of an operand's value
abbrev pub integer_kind : CType → Option Basic
integer_kind t = if is_integer_kind (arithmetic t) then arithmetic t else None

-- `char` is signed
abbrev pub is_unsigned : Basic → Bool
is_unsigned basic.Bool = true
is_unsigned basic.UChar = true
is_unsigned basic.UShort = true
is_unsigned basic.UInt = true
is_unsigned basic.ULong = true
is_unsigned basic.ULLong = true
is_unsigned _ = false

-- a value in another type: in `_Bool` 0 or 1 (6.3.1.2), else the value of that type that is equal modulo 2 to the power of its width
-- (6.3.1.3); `as_unsigned` is the value modulo 2 ^ 64, and `cast_signed` takes 2 to the power of the width from what is too large
abbrev pub converted : Basic → Number → Number
converted basic.Bool n = if is_true n then Unsigned 1 else Unsigned 0
converted basic.Char n = Signed (cast_signed w8 (as_unsigned n % 2 ^ 8))
converted basic.SChar n = Signed (cast_signed w8 (as_unsigned n % 2 ^ 8))
converted basic.UChar n = Unsigned (as_unsigned n % 2 ^ 8)
converted basic.Short n = Signed (cast_signed w16 (as_unsigned n % 2 ^ 16))
converted basic.UShort n = Unsigned (as_unsigned n % 2 ^ 16)
converted basic.Int n = Signed (cast_signed w32 (as_unsigned n % 2 ^ 32))
converted basic.UInt n = Unsigned (as_unsigned n % 2 ^ 32)
converted basic.Long n = Signed (cast_signed w64 (as_unsigned n % 2 ^ 64))
converted basic.LLong n = Signed (cast_signed w64 (as_unsigned n % 2 ^ 64))
converted _ n = Unsigned (as_unsigned n % 2 ^ 64)

-- a result in its type: an unsigned one modulo, and a signed one where its type has it (6.2.5p9, 6.5p5)
abbrev pub narrowed : Basic → Option Number → Worth
narrowed k None = Fails
narrowed k (Some n) = if is_unsigned k || as_unsigned (converted k n) == as_unsigned n then Known (converted k n) else Fails

-- what is known is converted
abbrev pub worth_as : Basic → Worth → Worth
worth_as k (Known n) = Known (converted k n)
worth_as k w = w

-- ---- operators over one operand (6.5.3.3)

abbrev pub prefix_operator : UnaryOp → Option Operator
prefix_operator unary.Plus = Some op.Plus
prefix_operator unary.Minus = Some op.Minus
prefix_operator unary.Complement = Some op.Complement
prefix_operator unary.Not = Some op.Not
prefix_operator _ = None

abbrev pub is_not : Operator → Bool
is_not op.Not = true
is_not _ = false

-- `!` asks the operand's value as it is, and the others convert it to their type first
abbrev pub prefix_known : Operator → Basic → Number → Worth
prefix_known o k n = if is_not o then narrowed k (apply_prefix o n) else narrowed k (apply_prefix o (converted k n))

abbrev pub prefixed : Operator → Basic → Worth → Worth
prefixed o k (Known n) = prefix_known o k n
prefixed o k w = w

-- ---- operators between two operands (6.5.5 to 6.5.14)

abbrev pub infix_operator : BinaryOp → Option Operator
infix_operator binary.Multiply = Some op.Times
infix_operator binary.Divide = Some op.Divide
infix_operator binary.Remainder = Some op.Remainder
infix_operator binary.Add = Some op.Plus
infix_operator binary.Subtract = Some op.Minus
infix_operator binary.ShiftLeft = Some op.ShiftLeft
infix_operator binary.ShiftRight = Some op.ShiftRight
infix_operator binary.Less = Some op.Less
infix_operator binary.Greater = Some op.Greater
infix_operator binary.LessEqual = Some op.LessEqual
infix_operator binary.GreaterEqual = Some op.GreaterEqual
infix_operator binary.Equal = Some op.Equal
infix_operator binary.NotEqual = Some op.NotEqual
infix_operator binary.BitAnd = Some op.BitAnd
infix_operator binary.BitXor = Some op.BitXor
infix_operator binary.BitOr = Some op.BitOr
infix_operator binary.LogicalAnd = Some op.And
infix_operator binary.LogicalOr = Some op.Or
infix_operator _ = None

abbrev pub is_comparison : Operator → Bool
is_comparison op.Less = true
is_comparison op.Greater = true
is_comparison op.LessEqual = true
is_comparison op.GreaterEqual = true
is_comparison op.Equal = true
is_comparison op.NotEqual = true
is_comparison _ = false

abbrev pub is_shift : Operator → Bool
is_shift op.ShiftLeft = true
is_shift op.ShiftRight = true
is_shift _ = false

abbrev pub is_remainder : Operator → Bool
is_remainder op.Remainder = true
is_remainder _ = false

abbrev pub is_division : Operator → Bool
is_division op.Divide = true
is_division op.Remainder = true
is_division _ = false

abbrev pub common_kind : Option Basic → Option Basic → Option Basic
common_kind (Some j) (Some k) = Some (usual_basic j k)
common_kind _ _ = None

-- the type in which an operation is worked: the common one of what is compared (6.5.8p3, 6.5.9p4), else that of the result
abbrev pub operand_kind : Operator → Option Basic → Option Basic → Basic → Option Basic
operand_kind o left right own = if is_comparison o then common_kind left right else Some own

-- a zero divisor (6.5.5p5), or a shift by a negative count or by the width or more (6.5.7p3)
abbrev pub spoils : Operator → Basic → Number → Bool
spoils o k y = (is_division o && not (is_true (converted k y))) || (is_shift o && not (nat_lt (as_unsigned y) (8 * bytes k)))

-- the count of a shift stays as it is
abbrev pub right_operand : Operator → Basic → Number → Number
right_operand o k y = if is_shift o then y else converted k y

abbrev pub remaining : Worth → Worth → Worth
remaining Fails w = Fails
remaining _ w = w

-- two values that are known: a remainder has none where the quotient has none (6.5.5p6)
abbrev pub worked : Operator → Basic → Basic → Number → Number → Worth
worked o k own x y =
    if is_remainder o then remaining (narrowed k (apply op.Divide (converted k x) (converted k y))) (narrowed own (apply op.Remainder (converted k x) (converted k y)))
    else narrowed own (apply o (converted k x) (right_operand o k y))

abbrev pub after_known : Operator → Basic → Basic → Number → Worth → Worth
after_known o k own x (Known y) = if spoils o k y then Fails else worked o k own x y
after_known o k own x w = w

abbrev pub after_unknown : Operator → Basic → Worth → Worth
after_unknown o k (Known y) = if spoils o k y then Fails else Unknown
after_unknown o k w = w

-- both operands are evaluated
abbrev pub infixed : Operator → Basic → Basic → Worth → Worth → Worth
infixed o k own Fails right = Fails
infixed o k own Unknown right = after_unknown o k right
infixed o k own (Known x) right = after_known o k own x right

abbrev pub infix_at : Operator → Option Basic → Basic → Worth → Worth → Worth
infix_at o None own left right = Unknown
infix_at o (Some k) own left right = infixed o k own left right

-- ---- what isn't evaluated doesn't count: what follows the first operand of `&&`, `||` and `?:` (6.5.13p4, 6.5.14p4, 6.5.15p4)

abbrev pub truth_of : Worth → Worth
truth_of (Known n) = Known (truth (is_true n))
truth_of w = w

abbrev pub chosen : Bool → Worth → Worth → Worth
chosen b x y = if b then x else y

abbrev pub logical_and : Worth → Worth → Worth
logical_and (Known n) right = chosen (is_true n) (truth_of right) (Known (truth false))
logical_and w right = w

abbrev pub logical_or : Worth → Worth → Worth
logical_or (Known n) right = chosen (is_true n) (Known (truth true)) (truth_of right)
logical_or w right = w

abbrev pub select : Basic → Worth → Worth → Worth → Worth
select k (Known n) x y = worth_as k (chosen (is_true n) x y)
select k w x y = w

abbrev pub binary_worth : Operator → Option Basic → Option Basic → Basic → Worth → Worth → Worth
binary_worth op.And j k own left right = logical_and left right
binary_worth op.Or j k own left right = logical_or left right
binary_worth o j k own left right = infix_at o (operand_kind o j k own) own left right

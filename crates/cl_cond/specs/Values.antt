-- The type of a condition and its value (N1570 6.5, 6.6, 6.10.1p4), each by its tree. All types are `intmax_t` and
-- `uintmax_t`, so a type is whether it is unsigned. Operands are worked from left to right and before their operator, and
-- what is not worked does not fail.
use Rattle.std.specs.Prelude.{ℕ, Bool, true, false, ◌||◌, if◌then◌else◌, pos, Option, Some, None}
use Rattle.cl_const.specs.declared.characters.Constant.{Constant}
use Rattle.cl_const.specs.declared.characters.Constant.TheVariants.{Known, Unknown}
use Rattle.cl_const.specs.declared.number.Number.{Number}
use Rattle.cl_const.specs.declared.number.Number.TheVariants.{Signed}
use Rattle.cl_const.specs.declared.operators.Operator.{Operator}
use Rattle.cl_const.specs.declared.operators.Operator.TheVariants as op
use Rattle.cl_const.specs.Numbers.{converted, is_true, is_unsigned, truth}
use Rattle.cl_const.specs.Operators.{apply, apply_prefix, infix_unsigned, prefix_unsigned}
use Rattle.cl_cond.specs.declared.word.Class.{Class}
use Rattle.cl_cond.specs.declared.word.Class.TheVariants as class
use Rattle.cl_cond.specs.Expressions.{Tree, leaf, parens, unary, binary, choice, operator_of}

-- ---- the type

abbrev pub unsigned_constant : Constant → Bool
unsigned_constant (Known n) = is_unsigned n
unsigned_constant (Unknown unsigned) = unsigned

abbrev pub unsigned_class : Class → Bool
unsigned_class (class.Operand constant) = unsigned_constant constant
unsigned_class _ = false

-- the last two operands of `?:` make its type (6.5.15p5)
abbrev pub unsigned_of : Tree → Bool
unsigned_of (leaf w) = unsigned_class w.class
unsigned_of (parens a t b) = unsigned_of t
unsigned_of (unary w t) = prefix_unsigned (operator_of w.class) (unsigned_of t)
unsigned_of (binary l w r) = infix_unsigned (operator_of w.class) (unsigned_of l) (unsigned_of r)
unsigned_of (choice c q f k s) = unsigned_of f || unsigned_of s

-- ---- the value

-- a value, or the place of the token that fails first
pub data Worth : Type 0 where
  number : Number → Worth
  fails : ℕ → Worth

-- what is unknown fails where it is worked
abbrev pub constant_worth : ℕ → Constant → Worth
constant_worth place (Known n) = number n
constant_worth place (Unknown unsigned) = fails place

abbrev pub class_worth : ℕ → Class → Worth
class_worth place (class.Operand constant) = constant_worth place constant
class_worth place _ = number (Signed (pos 0))

-- an operation with no value fails at its operator
abbrev pub given_worth : Option Number → ℕ → Worth
given_worth (Some n) place = number n
given_worth None place = fails place

abbrev pub prefix_worth : Operator → ℕ → Worth → Worth
prefix_worth o place (number n) = given_worth (apply_prefix o n) place
prefix_worth o place (fails before) = fails before

-- where both operands are worked
abbrev pub applied_worth : Operator → ℕ → Worth → Worth → Worth
applied_worth o place (fails before) right = fails before
applied_worth o place (number x) (fails before) = fails before
applied_worth o place (number x) (number y) = given_worth (apply o x y) place

abbrev pub truth_worth : Worth → Worth
truth_worth (number n) = number (truth (is_true n))
truth_worth (fails place) = fails place

-- `||`, whose right operand is not worked where the left one is true (6.5.14p4)
abbrev pub or_worth : Worth → Worth → Worth
or_worth (fails place) right = fails place
or_worth (number n) right = if is_true n then number (truth true) else truth_worth right

-- `&&`, whose right operand is not worked where the left one is false (6.5.13p4)
abbrev pub and_worth : Worth → Worth → Worth
and_worth (fails place) right = fails place
and_worth (number n) right = if is_true n then truth_worth right else number (truth false)

abbrev pub infix_worth : Operator → ℕ → Worth → Worth → Worth
infix_worth op.Or place left right = or_worth left right
infix_worth op.And place left right = and_worth left right
infix_worth o place left right = applied_worth o place left right

abbrev pub converted_worth : Bool → Worth → Worth
converted_worth unsigned (number n) = number (converted unsigned n)
converted_worth unsigned (fails place) = fails place

-- one of the last two operands is worked (6.5.15p4), and turns into the type of both
abbrev pub choice_worth : Bool → Worth → Worth → Worth → Worth
choice_worth unsigned (fails place) first second = fails place
choice_worth unsigned (number n) first second = converted_worth unsigned (if is_true n then first else second)

abbrev pub worth_of : Tree → Worth
worth_of (leaf w) = class_worth w.place w.class
worth_of (parens a t b) = worth_of t
worth_of (unary w t) = prefix_worth (operator_of w.class) w.place (worth_of t)
worth_of (binary l w r) = infix_worth (operator_of w.class) w.place (worth_of l) (worth_of r)
worth_of (choice c q f k s) = choice_worth (unsigned_of f || unsigned_of s) (worth_of c) (worth_of f) (worth_of s)

-- How the code works a condition: the type and the value at once, from operand to operand.
use Rattle.std.specs.Prelude.{ℕ, Bool, true, false, not, ◌||◌, if◌then◌else◌, pos, Option, Some, None}
use Rattle.cl_const.specs.declared.characters.Constant.{Constant}
use Rattle.cl_const.specs.declared.characters.Constant.TheVariants.{Known, Unknown}
use Rattle.cl_const.specs.declared.number.Number.{Number}
use Rattle.cl_const.specs.declared.number.Number.TheVariants.{Signed}
use Rattle.cl_const.specs.declared.operators.Operator.{Operator}
use Rattle.cl_const.specs.declared.operators.Operator.TheVariants as op
use Rattle.cl_const.specs.Numbers.{as_unsigned, converted, is_true, is_unsigned, truth}
use Rattle.cl_const.specs.Operators.{apply, apply_prefix, infix_unsigned, prefix_unsigned}
use Rattle.cl_cond.specs.declared.eval.IfValue.{IfValue}
use Rattle.cl_cond.specs.declared.eval.IfValue.TheVariants as if_value
use Rattle.cl_cond.specs.declared.outcome.Outcome.{Outcome}
use Rattle.cl_cond.specs.declared.outcome.Outcome.TheVariants.{Value, Fails}
use Rattle.cl_cond.specs.declared.word.Class.{Class}
use Rattle.cl_cond.specs.declared.word.Class.TheVariants as class
use Rattle.cl_cond.specs.Expressions.{Tree, leaf, parens, unary, binary, choice, operator_of}

abbrev pub constant_outcome : ℕ → Constant → Outcome
constant_outcome place (Known n) = Value n
constant_outcome place (Unknown unsigned) = Fails place unsigned

abbrev pub outcome_unsigned : Outcome → Bool
outcome_unsigned (Value n) = is_unsigned n
outcome_unsigned (Fails place unsigned) = unsigned

-- an operation with no value fails at its operator
abbrev pub given : Option Number → ℕ → Bool → Outcome
given (Some n) place unsigned = Value n
given None place unsigned = Fails place unsigned

abbrev pub prefix_outcome : Operator → ℕ → Outcome → Outcome
prefix_outcome o place (Value n) = given (apply_prefix o n) place (prefix_unsigned o (is_unsigned n))
prefix_outcome o place (Fails before unsigned) = Fails before (prefix_unsigned o unsigned)

-- where both operands are worked
abbrev pub applied : Operator → ℕ → Outcome → Outcome → Outcome
applied o place (Fails before unsigned) right = Fails before (infix_unsigned o unsigned (outcome_unsigned right))
applied o place (Value x) (Fails before unsigned) = Fails before (infix_unsigned o (is_unsigned x) unsigned)
applied o place (Value x) (Value y) = given (apply o x y) place (infix_unsigned o (is_unsigned x) (is_unsigned y))

abbrev pub truth_of : Outcome → Outcome
truth_of (Value n) = Value (truth (is_true n))
truth_of (Fails place unsigned) = Fails place false

abbrev pub same : Bool → Bool → Bool
same true b = b
same false b = not b

-- `||`, which a left operand that is true settles (6.5.14p4), and `&&`, which one that is false does (6.5.13p4)
abbrev pub logical_outcome : Bool → Outcome → Outcome → Outcome
logical_outcome settled_by (Fails place unsigned) right = Fails place false
logical_outcome settled_by (Value n) right = if same (is_true n) settled_by then Value (truth settled_by) else truth_of right

abbrev pub infix_outcome : Operator → ℕ → Outcome → Outcome → Outcome
infix_outcome op.Or place left right = logical_outcome true left right
infix_outcome op.And place left right = logical_outcome false left right
infix_outcome o place left right = applied o place left right

abbrev pub in_type : Bool → Outcome → Outcome
in_type unsigned (Value n) = Value (converted unsigned n)
in_type unsigned (Fails place own) = Fails place unsigned

-- one of the last two operands is worked, and both make the type (6.5.15p4, p5)
abbrev pub choice_outcome : Outcome → Outcome → Outcome → Outcome
choice_outcome (Fails place own) first second = Fails place (outcome_unsigned first || outcome_unsigned second)
choice_outcome (Value n) first second = in_type (outcome_unsigned first || outcome_unsigned second) (if is_true n then first else second)

abbrev pub operand_outcome : ℕ → Class → Outcome
operand_outcome place (class.Operand constant) = constant_outcome place constant
operand_outcome place _ = Value (Signed (pos 0))

-- what the code makes of a tree
abbrev pub outcome_of : Tree → Outcome
outcome_of (leaf w) = operand_outcome w.place w.class
outcome_of (parens a t b) = outcome_of t
outcome_of (unary w t) = prefix_outcome (operator_of w.class) w.place (outcome_of t)
outcome_of (binary l w r) = infix_outcome (operator_of w.class) w.place (outcome_of l) (outcome_of r)
outcome_of (choice c q f k s) = choice_outcome (outcome_of c) (outcome_of f) (outcome_of s)

abbrev pub answer : Outcome → IfValue
answer (Value n) = if_value.Value (as_unsigned n) (is_unsigned n)
answer (Fails place unsigned) = if_value.BadIf place

abbrev pub answer_of : Option Outcome → ℕ → IfValue
answer_of None end = if_value.BadIf end
answer_of (Some x) end = answer x

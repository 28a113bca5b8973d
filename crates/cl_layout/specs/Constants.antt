-- Integer constant expressions (N1570 6.6p6).
use Rattle.std.specs.Prelude.{ℕ, ℤ, pos, negsuc, ◌^◌, ◌&&◌, ◌||◌, not, nat_lt, Bool, true, false, if◌then◌else◌, List, [], ◌∷◌, slice_get, Option, Some, None}
use Rattle.std.specs.List.{list_any}
use Rattle.cl_const.specs.declared.number.Number.{Number}
use Rattle.cl_const.specs.declared.number.Number.TheVariants.{Signed, Unsigned}
use Rattle.cl_const.specs.declared.operators.Operator.{Operator}
use Rattle.cl_types.specs.declared.expressions.Operand.{Operand}
use Rattle.cl_types.specs.declared.expressions.Typed.{Typed}
use Rattle.cl_types.specs.declared.expressions.Typed.TheVariants as typed
use Rattle.cl_types.specs.declared.expressions.TypedExpr.{TypedExpr}
use Rattle.cl_types.specs.declared.expressions.TypedExpr.TheFolds.{fold-TypedExpr}
use Rattle.cl_types.specs.declared.expressions.TypedExpr.TheOpen.{TypedExpr-F}
use Rattle.cl_types.specs.declared.types.Basic.{Basic}
use Rattle.cl_types.specs.declared.types.CType.{CType}
use Rattle.cl_types.specs.declared.types.CType.TheFolds.{fold-CType}
use Rattle.cl_types.specs.declared.types.Length.{Length}
use Rattle.cl_types.specs.declared.types.Length.TheVariants as length_of
use Rattle.cl_types.specs.Compatible.{is_error}
use Rattle.cl_types.specs.Form.{Form, Form as f, form}
use Rattle.cl_layout.specs.declared.constants.Value.{Value}
use Rattle.cl_layout.specs.declared.constants.Value.TheVariants as value
use Rattle.cl_layout.specs.declared.layout.Layout.{Layout}
use Rattle.cl_layout.specs.declared.layout.Layout.TheVariants as layout_of
use Rattle.cl_layout.specs.declared.reading.Reading.{Reading}
use Rattle.cl_layout.specs.declared.worth.Worth.{Worth}
use Rattle.cl_layout.specs.declared.worth.Worth.TheVariants.{Fails, Unknown, Known}
use Rattle.cl_layout.specs.Layouts.{layout}
use Rattle.cl_layout.specs.Worths.{binary_worth, converted, infix_operator, integer_kind, prefixed, prefix_operator, select, worth_as}

-- ---- what 6.6 refuses, evaluated or not

-- an array of a length that is known when the program runs, or of such arrays (6.7.6.2p4)
abbrev pub is_variable_length : Length → Bool
is_variable_length length_of.Variable = true
is_variable_length _ = false

abbrev pub is_variable_in : Form Bool (Unit {0}) → Bool
is_variable_in (f.Array t n) = is_variable_length n || t
is_variable_in (f.Qualified q t) = t
is_variable_in (f.Atomic t) = t
is_variable_in _ = false

abbrev pub is_variable : CType → Bool
is_variable = fold-CType Bool (Unit {0}) (λ l. is_variable_in (form l)) (λ ps. tt)

abbrev pub any_refused : List Reading → Bool
any_refused parts = list_any (λ part. part.refused) parts

-- a floating constant may stand directly under a cast
abbrev pub any_uncastable : List Reading → Bool
any_uncastable parts = list_any (λ part. part.refused && not part.floating) parts

abbrev pub is_none : Option Operator → Bool
is_none None = true
is_none (Some o) = false

abbrev pub refused_at : Option Reading → Bool
refused_at None = true
refused_at (Some part) = part.refused

-- the leaves are integer, enumeration and character constants, and sizes; the operators have values alone; a generic selection is what
-- it selects. A name without a value is an enumerator's where it is no lvalue
abbrev pub has_other : Typed → Bool → List Reading → Bool
has_other (typed.Int v) lvalue parts = false
has_other (typed.Chars v) lvalue parts = false
has_other (typed.Named n (Some v)) lvalue parts = false
has_other (typed.Named n None) lvalue parts = lvalue
has_other (typed.Unary o) lvalue parts = is_none (prefix_operator o) || any_refused parts
has_other (typed.Binary o) lvalue parts = is_none (infix_operator o) || any_refused parts
has_other typed.Cast lvalue parts = any_uncastable parts
has_other typed.Select lvalue parts = any_refused parts
has_other (typed.SizeOf t) lvalue parts = is_variable t
has_other (typed.AlignOf t) lvalue parts = false
has_other (typed.Generic n) lvalue parts = refused_at (slice_get parts n)
has_other _ lvalue parts = true

abbrev pub is_floating_constant : Typed → Bool
is_floating_constant (typed.Floating name) = true
is_floating_constant _ = false

abbrev pub no_kind : Option Basic → Bool
no_kind None = true
no_kind (Some k) = false

-- each operand has integer type; one in error is not refused
abbrev pub is_refused : Typed → Operand → List Reading → Bool
is_refused op operand parts = if is_error operand.ty then false else no_kind (integer_kind operand.ty) || has_other op operand.lvalue parts

-- ---- what an evaluated expression is worth

-- a value of 64 bits
abbrev pub number_in : ℤ → Option Number
number_in (pos n) = if nat_lt n (2 ^ 64) then Some (Unsigned n) else None
number_in (negsuc n) = if nat_lt n (2 ^ 63) then Some (Signed (negsuc n)) else None

abbrev pub number_worth : Basic → Option Number → Worth
number_worth k None = Unknown
number_worth k (Some n) = Known (converted k n)

abbrev pub leaf_worth : Basic → Option ℤ → Worth
leaf_worth k None = Unknown
leaf_worth k (Some v) = number_worth k (number_in v)

abbrev pub size_worth : Basic → Layout → Worth
size_worth k (layout_of.Known size align) = Known (converted k (Unsigned size))
size_worth k _ = Unknown

abbrev pub align_worth : Basic → Layout → Worth
align_worth k (layout_of.Known size align) = Known (converted k (Unsigned align))
align_worth k _ = Unknown

abbrev pub worth_at : Option Reading → Worth
worth_at None = Unknown
worth_at (Some part) = part.worth

abbrev pub prefix_at : Option Operator → Basic → Worth → Worth
prefix_at None k w = Unknown
prefix_at (Some o) k w = prefixed o k w

abbrev pub binary_at : Option Operator → Basic → Reading → Reading → Worth
binary_at None k a b = Unknown
binary_at (Some o) k a b = binary_worth o a.kind b.kind k a.worth b.worth

abbrev pub cast_worth : Basic → Reading → Worth
cast_worth k a = if a.floating then Unknown else worth_as k a.worth

-- an operation over its operands
abbrev pub over_one : Typed → Basic → Reading → Worth
over_one (typed.Unary o) k a = prefix_at (prefix_operator o) k a.worth
over_one typed.Cast k a = cast_worth k a
over_one _ k a = Unknown

abbrev pub over_two : Typed → Basic → Reading → Reading → Worth
over_two (typed.Binary o) k a b = binary_at (infix_operator o) k a b
over_two _ k a b = Unknown

abbrev pub over_three : Typed → Basic → Reading → Reading → Reading → Worth
over_three typed.Select k a b c = select k a.worth b.worth c.worth
over_three _ k a b c = Unknown

abbrev pub over_parts : Typed → Basic → List Reading → Worth
over_parts op k (a ∷ []) = over_one op k a
over_parts op k (a ∷ b ∷ []) = over_two op k a b
over_parts op k (a ∷ b ∷ c ∷ []) = over_three op k a b c
over_parts op k _ = Unknown

abbrev pub worth_by : Typed → Basic → Layout → List Reading → Worth
worth_by (typed.Int v) k l parts = Known (converted k (Unsigned v))
worth_by (typed.Chars v) k l parts = leaf_worth k v
worth_by (typed.Named n v) k l parts = leaf_worth k v
worth_by (typed.SizeOf t) k l parts = size_worth k l
worth_by (typed.AlignOf t) k l parts = align_worth k l
worth_by (typed.Generic n) k l parts = worth_as k (worth_at (slice_get parts n))
worth_by op k l parts = over_parts op k parts

abbrev pub worth_in : Option Basic → Typed → Layout → List Reading → Worth
worth_in None op l parts = Unknown
worth_in (Some k) op l parts = worth_by op k l parts

-- ---- an expression, by its parts

abbrev pub read : Typed → Operand → Layout → List Reading → Reading
read op operand l parts = record {
  refused = is_refused op operand parts;
  floating = is_floating_constant op;
  kind = integer_kind operand.ty;
  worth = worth_in (integer_kind operand.ty) op l parts;
}

-- the layout of what `sizeof` or `_Alignof` asks
abbrev pub asked_layout : (Bool → ℕ → Layout) → Typed → Layout
asked_layout layouts (typed.SizeOf t) = layout layouts t
asked_layout layouts (typed.AlignOf t) = layout layouts t
asked_layout layouts _ = layout_of.Unknown

abbrev pub reading_by : (Bool → ℕ → Layout) → TypedExpr-F Reading → Reading
reading_by layouts e = read e.op e.operand (asked_layout layouts e.op) e.parts

abbrev pub reading : (Bool → ℕ → Layout) → TypedExpr → Reading
reading layouts = fold-TypedExpr Reading (reading_by layouts)

abbrev pub integer_of : Number → ℤ
integer_of (Signed z) = z
integer_of (Unsigned n) = pos n

abbrev pub value_in : Worth → Value
value_in Fails = value.NotConst
value_in Unknown = value.Unknown
value_in (Known n) = value.Known (integer_of n)

abbrev pub value_of : Reading → Value
value_of r = if r.refused then value.NotConst else value_in r.worth

-- the value of an expression as an integer constant expression
abbrev pub constant : (Bool → ℕ → Layout) → TypedExpr → Value
constant layouts e = value_of (reading layouts e)

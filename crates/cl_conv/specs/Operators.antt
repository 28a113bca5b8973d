-- Conversions and operators over types (N1570 6.3.1, 6.5).
use Rattle.std.specs.Prelude.{◌&&◌, ◌||◌, not, nat_le, if◌then◌else◌, Bool, true, false, List, [], ◌∷◌, Option, Some, None}
use Rattle.cl_types.specs.declared.types.Basic.{Basic}
use Rattle.cl_types.specs.declared.types.Basic.TheVariants as basic_type
use Rattle.cl_types.specs.declared.types.CType.{CType}
use Rattle.cl_types.specs.declared.types.CType.TheVariants as make
use Rattle.cl_types.specs.Compatible.{is_error}
use Rattle.cl_types.specs.Form.{place}
use Rattle.cl_types.specs.declared.expressions.Operand.{Operand}
use Rattle.cl_types.specs.declared.expressions.BinaryOp.{BinaryOp}
use Rattle.cl_types.specs.declared.expressions.BinaryOp.TheVariants as op
use Rattle.cl_conv.specs.declared.operators.Outcome.{Outcome}
use Rattle.cl_conv.specs.declared.operators.Outcome.TheVariants as give
use Rattle.cl_conv.specs.Operands.{is_arithmetic, is_array, is_const, is_function, is_integer, is_object_pointer, is_pointer, is_scalar, object_and_void, same_pointers, target, value_type}
use Rattle.cl_types.specs.Kinds.{arithmetic}
use Rattle.cl_types.specs.Usual.{promoted, usual_basic}

abbrev pub of_basic : Basic → CType
of_basic basic_type.Bool = make.Bool
of_basic basic_type.Char = make.Char
of_basic basic_type.SChar = make.SChar
of_basic basic_type.UChar = make.UChar
of_basic basic_type.Short = make.Short
of_basic basic_type.UShort = make.UShort
of_basic basic_type.Int = make.Int
of_basic basic_type.UInt = make.UInt
of_basic basic_type.Long = make.Long
of_basic basic_type.ULong = make.ULong
of_basic basic_type.LLong = make.LLong
of_basic basic_type.ULLong = make.ULLong
of_basic basic_type.Float = make.Float
of_basic basic_type.Double = make.Double
of_basic basic_type.LDouble = make.LDouble

abbrev pub promote_kind : Option Basic → CType → CType
promote_kind None t = t
promote_kind (Some k) t = of_basic (promoted k)

-- the integer promotions (6.3.1.1p2)
abbrev pub promote : CType → CType
promote t = promote_kind (arithmetic t) t

abbrev pub usual_kinds : Option Basic → Option Basic → CType
usual_kinds (Some j) (Some k) = of_basic (usual_basic j k)
usual_kinds _ _ = make.Error

-- the usual arithmetic conversions (6.3.1.8)
abbrev pub usual : CType → CType → CType
usual a b = usual_kinds (arithmetic a) (arithmetic b)

-- What the operands of an operator must be, one case a kind of row of the table.
pub data Operands : Type 0 where
  BothArithmetic BothInteger BothScalar : Operands
  ObjectAndInteger IntegerAndObject : Operands
  SameObjects SamePointers PointerAndNull ObjectAndVoid : Operands
  Any : Operands

-- the rows of an operator between two operands, in order (6.5.2.1, 6.5.5 to 6.5.14, 6.5.16, 6.5.17)
abbrev pub rows : BinaryOp → List (Operands × Outcome)
rows op.Index = (ObjectAndInteger, give.LeftTarget) ∷ (IntegerAndObject, give.RightTarget) ∷ []
rows op.Multiply = (BothArithmetic, give.ByUsual) ∷ []
rows op.Divide = (BothArithmetic, give.ByUsual) ∷ []
rows op.Remainder = (BothInteger, give.ByUsual) ∷ []
rows op.Add = (BothArithmetic, give.ByUsual) ∷ (ObjectAndInteger, give.LeftType) ∷ (IntegerAndObject, give.RightType) ∷ []
rows op.Subtract = (BothArithmetic, give.ByUsual) ∷ (ObjectAndInteger, give.LeftType) ∷ (SameObjects, give.IsLong) ∷ []
rows op.ShiftLeft = (BothInteger, give.PromotedLeft) ∷ []
rows op.ShiftRight = (BothInteger, give.PromotedLeft) ∷ []
rows op.Less = (BothArithmetic, give.IsInt) ∷ (SameObjects, give.IsInt) ∷ []
rows op.Greater = (BothArithmetic, give.IsInt) ∷ (SameObjects, give.IsInt) ∷ []
rows op.LessEqual = (BothArithmetic, give.IsInt) ∷ (SameObjects, give.IsInt) ∷ []
rows op.GreaterEqual = (BothArithmetic, give.IsInt) ∷ (SameObjects, give.IsInt) ∷ []
rows op.Equal = (BothArithmetic, give.IsInt) ∷ (SamePointers, give.IsInt) ∷ (PointerAndNull, give.IsInt) ∷ (ObjectAndVoid, give.IsInt) ∷ []
rows op.NotEqual = (BothArithmetic, give.IsInt) ∷ (SamePointers, give.IsInt) ∷ (PointerAndNull, give.IsInt) ∷ (ObjectAndVoid, give.IsInt) ∷ []
rows op.BitAnd = (BothInteger, give.ByUsual) ∷ []
rows op.BitXor = (BothInteger, give.ByUsual) ∷ []
rows op.BitOr = (BothInteger, give.ByUsual) ∷ []
rows op.LogicalAnd = (BothScalar, give.IsInt) ∷ []
rows op.LogicalOr = (BothScalar, give.IsInt) ∷ []
rows op.Assign = (Any, give.LeftType) ∷ []
rows op.AssignMultiply = (BothArithmetic, give.LeftType) ∷ []
rows op.AssignDivide = (BothArithmetic, give.LeftType) ∷ []
rows op.AssignRemainder = (BothInteger, give.LeftType) ∷ []
rows op.AssignAdd = (BothArithmetic, give.LeftType) ∷ (ObjectAndInteger, give.LeftType) ∷ []
rows op.AssignSubtract = (BothArithmetic, give.LeftType) ∷ (ObjectAndInteger, give.LeftType) ∷ []
rows op.AssignShiftLeft = (BothInteger, give.LeftType) ∷ []
rows op.AssignShiftRight = (BothInteger, give.LeftType) ∷ []
rows op.AssignBitAnd = (BothInteger, give.LeftType) ∷ []
rows op.AssignBitXor = (BothInteger, give.LeftType) ∷ []
rows op.AssignBitOr = (BothInteger, give.LeftType) ∷ []
rows op.Comma = (Any, give.RightType) ∷ []

-- whether an operator assigns to its left operand (6.5.16)
abbrev pub assigns : BinaryOp → Bool
assigns op.Assign = true
assigns op.AssignMultiply = true
assigns op.AssignDivide = true
assigns op.AssignRemainder = true
assigns op.AssignAdd = true
assigns op.AssignSubtract = true
assigns op.AssignShiftLeft = true
assigns op.AssignShiftRight = true
assigns op.AssignBitAnd = true
assigns op.AssignBitXor = true
assigns op.AssignBitOr = true
assigns _ = false

-- what may be assigned to: an lvalue that is no array and not `const` (6.5.16p2, 6.3.2.1p1)
abbrev pub is_place : Operand → Bool
is_place a = a.lvalue && (not (is_array a.ty) && not (is_const a.ty))

-- a pointer and a null pointer constant, in either order
abbrev pub pointer_and_null : Operand → Operand → Bool
pointer_and_null a b = (is_pointer a.ty && b.null) || (a.null && is_pointer b.ty)

-- two pointers to compatible object types, qualifiers aside
abbrev pub same_objects : CType → CType → Bool
same_objects a b = is_object_pointer a && same_pointers a b

abbrev pub fit : Operands → Operand → Operand → Bool
fit BothArithmetic a b = is_arithmetic a.ty && is_arithmetic b.ty
fit BothInteger a b = is_integer a.ty && is_integer b.ty
fit BothScalar a b = is_scalar a.ty && is_scalar b.ty
fit ObjectAndInteger a b = is_object_pointer a.ty && is_integer b.ty
fit IntegerAndObject a b = is_integer a.ty && is_object_pointer b.ty
fit SameObjects a b = same_objects a.ty b.ty
fit SamePointers a b = same_pointers a.ty b.ty
fit PointerAndNull a b = pointer_and_null a b
fit ObjectAndVoid a b = object_and_void a.ty b.ty
fit Any a b = true

-- the first row that fits
abbrev pub first_row : List (Operands × Outcome) → Operand → Operand → Option Outcome
first_row [] a b = None
first_row (row ∷ more) a b = if fit row.0 a b then Some row.1 else first_row more a b

abbrev pub value : CType → Operand
value t = record { ty = t; lvalue = false; bit_field = false; register = false; null = false }

abbrev pub object : CType → Operand
object t = record { ty = t; lvalue = true; bit_field = false; register = false; null = false }

-- what is pointed to: an lvalue, unless it is a function (6.5.3.2p4)
abbrev pub designated : Option CType → Operand
designated None = value make.Error
designated (Some t) = record { ty = t; lvalue = not (is_function t); bit_field = false; register = false; null = false }

abbrev pub made : Outcome → CType → CType → Operand
made give.ByUsual a b = value (usual a b)
made give.PromotedLeft a b = value (promote (value_type a))
made give.LeftType a b = value (value_type a)
made give.RightType a b = value (value_type b)
made give.IsInt a b = value make.Int
made give.IsLong a b = value make.Long
made give.LeftTarget a b = designated (target a)
made give.RightTarget a b = designated (target b)

abbrev pub made_by : Option Outcome → CType → CType → Option Operand
made_by None a b = None
made_by (Some o) a b = Some (made o a b)

-- the row that counts, where what is assigned to may be
abbrev pub row_of : BinaryOp → Operand → Operand → Option Outcome
row_of op a b = if assigns op && not (is_place a) then None else first_row (rows op) a b

-- an operator between two operands: of one in error, in error
abbrev pub binary : BinaryOp → Operand → Operand → Option Operand
binary op a b = if is_error a.ty || is_error b.ty then Some (value make.Error) else made_by (row_of op a b) a.ty b.ty

abbrev pub is_converted_kind : Option Basic → Bool
is_converted_kind None = false
is_converted_kind (Some k) = nat_le 6 (place k)

-- one of the types from `int` to `long double` in the list of 6.3.1.8
abbrev pub is_converted : CType → Bool
is_converted t = is_converted_kind (arithmetic t)

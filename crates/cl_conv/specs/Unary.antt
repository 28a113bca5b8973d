-- Operators over one operand, casts, `sizeof`, `?:`, assignment and calls (N1570 6.5.2.2, 6.5.2.4, 6.5.3, 6.5.4, 6.5.15, 6.5.16.1).
use Rattle.std.specs.Prelude.{ℕ, ◌==◌, ◌&&◌, ◌||◌, not, if◌then◌else◌, bit_and, bit_or, nat_le, Bool, true, false, List, length, Option, Some, None}
use Rattle.cl_types.specs.declared.types.CType.{CType}
use Rattle.cl_types.specs.declared.types.CType.TheVariants as make
use Rattle.cl_types.specs.declared.types.CType.TheViews.{out-CType, out-Params}
use Rattle.cl_types.specs.declared.types.Params.{Params}
use Rattle.cl_types.specs.Compatible.{is_error}
use Rattle.cl_types.specs.Composite.{composite}
use Rattle.cl_types.specs.Form.{Form, Form as f, form, listed, unqualified}
use Rattle.cl_types.specs.Qualify.{qualified, qualifiers_of}
use Rattle.cl_types.specs.declared.expressions.Operand.{Operand}
use Rattle.cl_types.specs.declared.expressions.UnaryOp.{UnaryOp}
use Rattle.cl_types.specs.declared.expressions.UnaryOp.TheVariants as op
use Rattle.cl_conv.specs.Operands.{is_arithmetic, is_bool, is_floating_type, is_function, is_integer, is_object_pointer, is_pointer, is_scalar, is_void, object_and_void, same_pointers, same_record, target, value_type}
use Rattle.cl_types.specs.Kinds.{stripped}
use Rattle.cl_conv.specs.Operators.{designated, is_place, promote, usual, value}

-- what may be stepped: arithmetic or a pointer to an object, where it may be assigned to (6.5.2.4p1, 6.5.3.1p1)
abbrev pub may_step : Operand → Bool
may_step a = is_place a && (is_arithmetic a.ty || is_object_pointer a.ty)

-- what has an address that may be taken: a function, or an lvalue that is no bit-field and no `register` object (6.5.3.2p1)
abbrev pub has_address : Operand → Bool
has_address a = is_function a.ty || (a.lvalue && (not a.bit_field && not a.register))

abbrev pub where_fits : Bool → Operand → Option Operand
where_fits fits a = if fits then Some a else None

-- the rows of the operators over one operand
abbrev pub unary_row : UnaryOp → Operand → Option Operand
unary_row op.PostIncrement a = where_fits (may_step a) (value (value_type a.ty))
unary_row op.PostDecrement a = where_fits (may_step a) (value (value_type a.ty))
unary_row op.PreIncrement a = where_fits (may_step a) (value (value_type a.ty))
unary_row op.PreDecrement a = where_fits (may_step a) (value (value_type a.ty))
unary_row op.AddressOf a = where_fits (has_address a) (value (make.Pointer a.ty))
unary_row op.Dereference a = where_fits (is_pointer a.ty) (designated (target a.ty))
unary_row op.Plus a = where_fits (is_arithmetic a.ty) (value (promote (value_type a.ty)))
unary_row op.Minus a = where_fits (is_arithmetic a.ty) (value (promote (value_type a.ty)))
unary_row op.Complement a = where_fits (is_integer a.ty) (value (promote (value_type a.ty)))
unary_row op.Not a = where_fits (is_scalar a.ty) (value make.Int)

-- an operator over one operand: of one in error, in error
abbrev pub unary : UnaryOp → Operand → Option Operand
unary op a = if is_error a.ty then Some (value make.Error) else unary_row op a

abbrev pub has_all : ℕ → ℕ → Bool
has_all q r = bit_and q r == r

abbrev pub keeps_qualifiers : Option CType → Option CType → Bool
keeps_qualifiers (Some t) (Some u) = has_all (qualifiers_of t) (qualifiers_of u)
keeps_qualifiers _ _ = false

-- the pointed-to type of a type that is a pointer itself
abbrev pub pointed_in : Form CType Params → Option CType
pointed_in (f.Pointer t) = Some t
pointed_in _ = None

abbrev pub pointed : CType → Option CType
pointed t = pointed_in (form (out-CType (stripped t)))

abbrev pub is_some : Option CType → Bool
is_some None = false
is_some (Some t) = true

-- a type that is scalar itself (6.2.5p21)
abbrev pub is_scalar_type : CType → Bool
is_scalar_type t = is_arithmetic t || is_some (pointed t)

-- a pointer and a floating type
abbrev pub pointer_and_floating : CType → CType → Bool
pointer_and_floating a b = is_pointer a && is_floating_type b

-- a cast: any to void; else scalar to scalar, but not between a pointer and a floating type (6.5.4p2 to p4)
abbrev pub may_cast : CType → Operand → Bool
may_cast to a =
    is_void to
    || ((is_scalar_type to && is_scalar a.ty) && not (pointer_and_floating to a.ty || pointer_and_floating a.ty to))

abbrev pub cast_row : CType → Operand → Option Operand
cast_row to a = where_fits (may_cast to a) (value (stripped to))

abbrev pub cast : CType → Operand → Option Operand
cast to a = if is_error (stripped to) || is_error a.ty then Some (value make.Error) else cast_row to a

-- `sizeof` an expression: no function, no bit-field (6.5.3.4p1)
abbrev pub size_of : Operand → Option Operand
size_of a = if is_error a.ty then Some (value make.Error) else where_fits (not (is_function a.ty) && not a.bit_field) (value make.ULong)

-- a pointer to the composite of two types, with the qualifiers of both (6.5.15p6)
abbrev pub joined : Option CType → Option CType → CType
joined (Some t) (Some u) = make.Pointer (qualified (bit_or (qualifiers_of t) (qualifiers_of u)) (composite (unqualified t) (unqualified u)))
joined _ _ = make.Error

-- a pointer to void with the qualifiers of both
abbrev pub joined_void : Option CType → Option CType → CType
joined_void (Some t) (Some u) = make.Pointer (qualified (bit_or (qualifiers_of t) (qualifiers_of u)) make.Void)
joined_void _ _ = make.Error

-- the rows of `?:` that are of pointers
abbrev pub pointer_choice : Operand → Operand → Option Operand
pointer_choice a b =
    if is_pointer a.ty && b.null then Some (value (value_type a.ty))
    else if a.null && is_pointer b.ty then Some (value (value_type b.ty))
    else if same_pointers a.ty b.ty then Some (value (joined (target a.ty) (target b.ty)))
    else if object_and_void a.ty b.ty then Some (value (joined_void (target a.ty) (target b.ty)))
    else None

-- the second and third operand of `?:`, row by row
abbrev pub choice : Operand → Operand → Option Operand
choice a b =
    if is_arithmetic a.ty && is_arithmetic b.ty then Some (value (usual a.ty b.ty))
    else if same_record a.ty b.ty then Some (value (stripped a.ty))
    else if is_void a.ty && is_void b.ty then Some (value make.Void)
    else pointer_choice a b

-- `?:` (6.5.15p2, p3)
abbrev pub conditional : Operand → Operand → Operand → Option Operand
conditional c a b =
    if is_error c.ty || (is_error a.ty || is_error b.ty) then Some (value make.Error)
    else if is_scalar c.ty then choice a b
    else None

abbrev pub given_in : Form CType Params → Option Operand
given_in (f.Function t ps) = Some (value (stripped t))
given_in _ = None

abbrev pub given : CType → Option Operand
given t = given_in (form (out-CType t))

abbrev pub given_by : Option CType → Option Operand
given_by None = None
given_by (Some t) = given t

-- what a call gives: the callee is a function or a pointer to one (6.5.2.2p1, p5)
abbrev pub call : Operand → Option Operand
call a = if is_error a.ty then Some (value make.Error) else given_by (target a.ty)

abbrev pub count_listed : Option (List CType × Bool) → ℕ → Bool
count_listed None n = true
count_listed (Some p) n = if p.1 then nat_le (length p.0) n else length p.0 == n

abbrev pub count_in : Form CType Params → ℕ → Bool
count_in (f.Function t ps) n = count_listed (listed (out-Params ps)) n
count_in _ n = false

-- whether a function takes so many arguments (6.5.2.2p2)
abbrev pub takes_count : CType → ℕ → Bool
takes_count t n = count_in (form (out-CType t)) n

-- the cases of the rule of assignment that are of pointers: to compatible types, or to an object and to void, where the left
-- keeps the right one's qualifiers; a pointer and a null pointer constant; `_Bool` and a pointer
abbrev pub takes_pointer : CType → Operand → Bool
takes_pointer to a =
    ((is_some (pointed to) && (same_pointers to a.ty || object_and_void to a.ty)) && keeps_qualifiers (pointed to) (target a.ty))
    || ((is_some (pointed to) && a.null)
    || (is_bool to && is_pointer a.ty))

-- whether a type takes an operand's value (6.5.16.1p1): one is in error; both are arithmetic; one structure or union type; or
-- a case of pointers
abbrev pub assignable : CType → Operand → Bool
assignable to a =
    (is_error (stripped to) || is_error a.ty)
    || ((is_arithmetic to && is_arithmetic a.ty)
    || (same_record to a.ty || takes_pointer to a))

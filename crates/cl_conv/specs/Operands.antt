-- Operands, after the conversions that most operators do first: an array becomes a pointer to its element, a function a
-- pointer to it, and any other operand loses its qualifiers and `_Atomic` (N1570 6.3.2.1p2 to p4).
use Rattle.std.specs.Prelude.{◌==◌, ◌&&◌, ◌||◌, not, Bool, true, false, Option, Some, None}
use Rattle.cl_types.specs.declared.types.Basic.{Basic}
use Rattle.cl_types.specs.declared.types.Basic.TheVariants.{Bool as BoolType}
use Rattle.cl_types.specs.declared.types.CType.{CType}
use Rattle.cl_types.specs.declared.types.CType.TheVariants as make
use Rattle.cl_types.specs.declared.types.CType.TheViews.{out-CType}
use Rattle.cl_types.specs.declared.types.Params.{Params}
use Rattle.cl_types.specs.Compatible.{compatible, is_enum}
use Rattle.cl_types.specs.Form.{Form, Form as f, form, unqualified}
use Rattle.cl_types.specs.Kinds.{arithmetic, is_integer_kind, stripped}
use Rattle.cl_types.specs.Qualify.{qualifiers_of}

abbrev pub decayed : Form CType Params → CType → CType
decayed (f.Array t n) _ = make.Pointer t
decayed (f.Function t ps) a = make.Pointer a
decayed _ a = a

-- the type of an operand's value
abbrev pub value_type : CType → CType
value_type t = decayed (form (out-CType (stripped t))) (stripped t)

abbrev pub target_in : Form CType Params → CType → Option CType
target_in (f.Pointer t) _ = Some t
target_in (f.Array t n) _ = Some t
target_in (f.Function t ps) a = Some a
target_in _ _ = None

-- what an operand's value points to
abbrev pub target : CType → Option CType
target t = target_in (form (out-CType (stripped t))) (stripped t)

abbrev pub is_arithmetic_kind : Option Basic → Bool
is_arithmetic_kind None = false
is_arithmetic_kind (Some k) = true

abbrev pub is_arithmetic : CType → Bool
is_arithmetic t = is_arithmetic_kind (arithmetic t)

abbrev pub is_integer : CType → Bool
is_integer t = is_integer_kind (arithmetic t)

abbrev pub is_floating_type : CType → Bool
is_floating_type t = is_arithmetic t && not (is_integer t)

abbrev pub is_some : Option CType → Bool
is_some None = false
is_some (Some t) = true

abbrev pub is_pointer : CType → Bool
is_pointer t = is_some (target t)

abbrev pub is_scalar : CType → Bool
is_scalar t = is_arithmetic t || is_pointer t

abbrev pub is_function_in : Form CType Params → Bool
is_function_in (f.Function t ps) = true
is_function_in _ = false

abbrev pub is_function : CType → Bool
is_function t = is_function_in (form (out-CType t))

abbrev pub is_array_in : Form CType Params → Bool
is_array_in (f.Array t n) = true
is_array_in _ = false

abbrev pub is_array : CType → Bool
is_array t = is_array_in (form (out-CType t))

abbrev pub is_void_in : Form CType Params → Bool
is_void_in f.Void = true
is_void_in _ = false

abbrev pub is_void : CType → Bool
is_void t = is_void_in (form (out-CType (stripped t)))

abbrev pub is_bool_in : Form CType Params → Bool
is_bool_in (f.Arithmetic BoolType) = true
is_bool_in _ = false

abbrev pub is_bool : CType → Bool
is_bool t = is_bool_in (form (out-CType (stripped t)))

abbrev pub is_record_in : Form CType Params → Bool
is_record_in (f.Tag n w) = not (is_enum w)
is_record_in _ = false

abbrev pub is_record : CType → Bool
is_record t = is_record_in (form (out-CType (stripped t)))

abbrev pub points_to_object : Option CType → Bool
points_to_object None = false
points_to_object (Some t) = not (is_function t)

abbrev pub points_to_void : Option CType → Bool
points_to_void None = false
points_to_void (Some t) = is_void t

-- two pointers to compatible types, qualifiers aside
abbrev pub alike : Option CType → Option CType → Bool
alike (Some t) (Some u) = compatible (unqualified t) (unqualified u)
alike _ _ = false

abbrev pub is_object_pointer : CType → Bool
is_object_pointer t = points_to_object (target t)

abbrev pub is_void_pointer : CType → Bool
is_void_pointer t = points_to_void (target t)

abbrev pub same_pointers : CType → CType → Bool
same_pointers a b = alike (target a) (target b)

-- a pointer to an object and a pointer to void, in either order
abbrev pub object_and_void : CType → CType → Bool
object_and_void a b = (is_object_pointer a && is_void_pointer b) || (is_void_pointer a && is_object_pointer b)

-- one structure or union type
abbrev pub same_record : CType → CType → Bool
same_record a b = is_record a && (is_record b && compatible (stripped a) (stripped b))

abbrev pub is_const : CType → Bool
is_const t = qualifiers_of t == 1 || (qualifiers_of t == 3 || (qualifiers_of t == 5 || qualifiers_of t == 7))

-- The arithmetic type of an operand's value (N1570 6.2.5p18, 6.3.2.1p2, 6.7.2.2p4).
use Rattle.std.specs.Prelude.{if◌then◌else◌, Bool, false, Option, Some, None, nat_le}
use Rattle.cl_types.specs.declared.types.Basic.{Basic}
use Rattle.cl_types.specs.declared.types.Basic.TheVariants.{Int}
use Rattle.cl_types.specs.declared.types.CType.{CType}
use Rattle.cl_types.specs.declared.types.CType.TheViews.{out-CType}
use Rattle.cl_types.specs.declared.types.Params.{Params}
use Rattle.cl_types.specs.Compatible.{is_enum}
use Rattle.cl_types.specs.Form.{Form, Form as f, form, place, unqualified}

abbrev pub without_atomic : Form CType Params → CType → CType
without_atomic (f.Atomic t) _ = t
without_atomic _ t = t

-- a type without its own qualifiers and `_Atomic`
abbrev pub stripped : CType → CType
stripped t = without_atomic (form (out-CType (unqualified t))) (unqualified t)

abbrev pub arithmetic_in : Form CType Params → Option Basic
arithmetic_in (f.Arithmetic k) = Some k
arithmetic_in (f.Tag n w) = if is_enum w then Some Int else None
arithmetic_in _ = None

-- the arithmetic type of an operand's value; an enumerated type counts as `int`
abbrev pub arithmetic : CType → Option Basic
arithmetic t = arithmetic_in (form (out-CType (stripped t)))

abbrev pub is_integer_kind : Option Basic → Bool
is_integer_kind None = false
is_integer_kind (Some k) = nat_le (place k) 11

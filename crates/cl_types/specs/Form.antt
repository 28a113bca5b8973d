-- One layer of a type, with the fifteen arithmetic types that aren't enumerations as one case.
use Rattle.std.specs.Prelude.{ℕ, nat_le, Bool, true, false, List, Option, Some, None}
use Rattle.cl_types.specs.declared.types.Basic.{Basic}
use Rattle.cl_types.specs.declared.types.Basic.TheVariants as basic_type
use Rattle.cl_types.specs.declared.types.Length.{Length}
use Rattle.cl_types.specs.declared.types.TagWord.{TagWord}
use Rattle.cl_types.specs.declared.types.CType.{CType}
use Rattle.cl_types.specs.declared.types.Params.{Params}
use Rattle.cl_types.specs.declared.types.CType.TheOpen.{CType-F, Params-F}
use Rattle.cl_types.specs.declared.types.CType.TheViews.{out-CType}

-- the arithmetic types in the order of 6.2.5
abbrev pub place : Basic → ℕ
place basic_type.Bool = 0
place basic_type.Char = 1
place basic_type.SChar = 2
place basic_type.UChar = 3
place basic_type.Short = 4
place basic_type.UShort = 5
place basic_type.Int = 6
place basic_type.UInt = 7
place basic_type.Long = 8
place basic_type.ULong = 9
place basic_type.LLong = 10
place basic_type.ULLong = 11
place basic_type.Float = 12
place basic_type.Double = 13
place basic_type.LDouble = 14

-- a layer: `A` stands for the types within, `B` for a function's parameters
pub data Form (A B : Type 0) : Type 0 where
  Void : Form A B
  Arithmetic : Basic → Form A B
  Pointer : A → Form A B
  Array : A → Length → Form A B
  Function : A → B → Form A B
  Tag : ℕ → TagWord → Form A B
  Qualified : ℕ → A → Form A B
  Atomic : A → Form A B
  Error : Form A B

abbrev pub form : {A B : Type 0} → CType-F A B → Form A B
form CType-F.Void = Void
form CType-F.Bool = Arithmetic basic_type.Bool
form CType-F.Char = Arithmetic basic_type.Char
form CType-F.SChar = Arithmetic basic_type.SChar
form CType-F.UChar = Arithmetic basic_type.UChar
form CType-F.Short = Arithmetic basic_type.Short
form CType-F.UShort = Arithmetic basic_type.UShort
form CType-F.Int = Arithmetic basic_type.Int
form CType-F.UInt = Arithmetic basic_type.UInt
form CType-F.Long = Arithmetic basic_type.Long
form CType-F.ULong = Arithmetic basic_type.ULong
form CType-F.LLong = Arithmetic basic_type.LLong
form CType-F.ULLong = Arithmetic basic_type.ULLong
form CType-F.Float = Arithmetic basic_type.Float
form CType-F.Double = Arithmetic basic_type.Double
form CType-F.LDouble = Arithmetic basic_type.LDouble
form (CType-F.Pointer t) = Pointer t
form (CType-F.Array t n) = Array t n
form (CType-F.Function t ps) = Function t ps
form (CType-F.Tag n w name) = Tag n.0 w
form (CType-F.Qualified q t) = Qualified q t
form (CType-F.Atomic t) = Atomic t
form CType-F.Error = Error

abbrev pub basic_in : {A B : Type 0} → Form A B → Option Basic
basic_in (Arithmetic k) = Some k
basic_in _ = None

abbrev pub basic_of : CType → Option Basic
basic_of t = basic_in (form (out-CType t))

-- a list of parameters, and whether `, ...` follows; or none (6.7.6.3)
abbrev pub listed : {A B : Type 0} → Params-F A B → Option (List A × Bool)
listed (Params-F.Proto ts v) = Some (ts, v)
listed Params-F.NoProto = None

abbrev pub unqualified_by : Form CType Params → CType → CType
unqualified_by (Qualified q t) _ = t
unqualified_by _ t = t

-- a type without its own qualifiers
abbrev pub unqualified : CType → CType
unqualified t = unqualified_by (form (out-CType t)) t

-- whether the default argument promotions leave a type as it is, qualifiers aside (6.5.2.2p6)
abbrev pub promoted_basic : Basic → Bool
promoted_basic basic_type.Float = false
promoted_basic k = nat_le 6 (place k)

abbrev pub promoted_in : {B : Type 0} → Form Bool B → Bool
promoted_in (Arithmetic k) = promoted_basic k
promoted_in (Qualified q t) = t
promoted_in _ = true

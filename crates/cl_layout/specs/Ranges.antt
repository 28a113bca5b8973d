-- The values that an integer type has (N1570 5.2.4.2.1, 6.2.5p2, 6.2.6.2p2).
use Rattle.std.specs.Prelude.{ℕ, ℤ, pos, negsuc, ◌<◌, ◌^◌}
use Rattle.std.specs.Int.{w8, w16, w32, w64}
use Rattle.std.specs.Int.RustNames.{FitsSigned}
use Rattle.cl_types.specs.declared.types.Basic.{Basic}
use Rattle.cl_types.specs.declared.types.Basic.TheVariants as basic

-- from 0 to 2 to the power of the width, less 1
abbrev pub FitsUnsigned : ℕ → ℤ → Type 0
FitsUnsigned width (pos n) = n < 2 ^ width
FitsUnsigned width (negsuc n) = ⊥

abbrev pub InRange : Basic → ℤ → Type 0
InRange basic.Bool v = FitsUnsigned 1 v
InRange basic.Char v = FitsSigned w8 v
InRange basic.SChar v = FitsSigned w8 v
InRange basic.UChar v = FitsUnsigned 8 v
InRange basic.Short v = FitsSigned w16 v
InRange basic.UShort v = FitsUnsigned 16 v
InRange basic.Int v = FitsSigned w32 v
InRange basic.UInt v = FitsUnsigned 32 v
InRange basic.Long v = FitsSigned w64 v
InRange basic.LLong v = FitsSigned w64 v
InRange _ v = FitsUnsigned 64 v

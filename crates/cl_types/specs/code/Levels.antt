-- The code's way to the usual arithmetic conversions: an order of the types that they give.
use Rattle.std.specs.Prelude.{ℕ, ◌==◌, if◌then◌else◌, ◌&&◌, nat_lt}
use Rattle.cl_types.specs.declared.types.Basic.{Basic}
use Rattle.cl_types.specs.declared.types.Basic.TheVariants.{Int, UInt, Long, ULong, LLong, ULLong, Float, Double, LDouble}

abbrev pub level : Basic → ℕ
level UInt = 1
level Long = 2
level ULong = 3
level LLong = 4
level ULLong = 5
level Float = 6
level Double = 7
level LDouble = 8
level _ = 0

abbrev pub at_level : ℕ → Basic
at_level n =
    if n == 0 then Int else if n == 1 then UInt else if n == 2 then Long else if n == 3 then ULong else if n == 4 then LLong
    else if n == 5 then ULLong else if n == 6 then Float else if n == 7 then Double else LDouble

-- the higher level, but that `unsigned long` and `long long` give `unsigned long long`
abbrev pub by_levels : ℕ → ℕ → Basic
by_levels x y =
    if (if nat_lt x y then x else y) == 3 && (if nat_lt x y then y else x) == 4 then ULLong else at_level (if nat_lt x y then y else x)

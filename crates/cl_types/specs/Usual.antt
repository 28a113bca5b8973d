-- Conversions of arithmetic types (N1570 6.3.1.1, 6.3.1.8).
use Rattle.std.specs.Prelude.{ℕ, if◌then◌else◌, Bool, true, false, ◌||◌, nat_lt, nat_le}
use Rattle.cl_types.specs.declared.types.Basic.{Basic}
use Rattle.cl_types.specs.declared.types.Basic.TheVariants.{Bool as BoolType, Char, SChar, UChar, Short, UShort, Int, UInt, Long, ULong, LLong, ULLong, Float, Double, LDouble}

-- the integer conversion rank (6.3.1.1p1); floating types have none
abbrev pub rank : Basic → ℕ
rank BoolType = 0
rank Char = 1
rank SChar = 1
rank UChar = 1
rank Short = 2
rank UShort = 2
rank Int = 3
rank UInt = 3
rank Long = 4
rank ULong = 4
rank LLong = 5
rank ULLong = 5
rank _ = 0

abbrev pub is_unsigned : Basic → Bool
is_unsigned UInt = true
is_unsigned ULong = true
is_unsigned ULLong = true
is_unsigned UChar = true
is_unsigned UShort = true
is_unsigned BoolType = true
is_unsigned _ = false

-- the size of an integer type in bytes
abbrev pub bytes : Basic → ℕ
bytes BoolType = 1
bytes Char = 1
bytes SChar = 1
bytes UChar = 1
bytes Short = 2
bytes UShort = 2
bytes Int = 4
bytes UInt = 4
bytes _ = 8

abbrev pub is_floating : Basic → Bool
is_floating Float = true
is_floating Double = true
is_floating LDouble = true
is_floating _ = false

abbrev pub unsigned_of : Basic → Basic
unsigned_of Int = UInt
unsigned_of Long = ULong
unsigned_of LLong = ULLong
unsigned_of t = t

-- the integer promotions (6.3.1.1p2): an `int` holds each value of a type of lower rank
abbrev pub promoted : Basic → Basic
promoted t = if is_floating t then t else if nat_lt (rank t) 3 then Int else t

abbrev pub is_long_double : Basic → Bool
is_long_double LDouble = true
is_long_double _ = false

abbrev pub is_double : Basic → Bool
is_double Double = true
is_double _ = false

abbrev pub is_float : Basic → Bool
is_float Float = true
is_float _ = false

-- of an unsigned type and a signed one (6.3.1.8p1)
abbrev pub mixed : Basic → Basic → Basic
mixed u s = if nat_le (rank s) (rank u) then u else if nat_lt (bytes u) (bytes s) then s else unsigned_of s

abbrev pub of_integers : Basic → Basic → Basic
of_integers a b =
    if is_unsigned a then (if is_unsigned b then (if nat_lt (rank a) (rank b) then b else a) else mixed a b)
    else (if is_unsigned b then mixed b a else (if nat_lt (rank a) (rank b) then b else a))

-- the usual arithmetic conversions (6.3.1.8p1)
abbrev pub usual_basic : Basic → Basic → Basic
usual_basic a b =
    if is_long_double a || is_long_double b then LDouble
    else if is_double a || is_double b then Double
    else if is_float a || is_float b then Float
    else of_integers (promoted a) (promoted b)

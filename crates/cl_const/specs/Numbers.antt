-- The numbers of `#if` (N1570 6.10.1p4): of 64 bits, signed or unsigned.
use Rattle.std.specs.Prelude.{ℕ, ℤ, pos, negsuc, ◌^◌, ◌==◌, Bool, true, false, not, if◌then◌else◌, nat_lt, Option, Some, None}
use Rattle.std.specs.Int.{cast_unsigned, w64}
use Rattle.cl_const.specs.declared.number.Number.{Number}
use Rattle.cl_const.specs.declared.number.Number.TheVariants.{Signed, Unsigned}
use Rattle.cl_const.specs.declared.number.Pair.{Pair}
use Rattle.cl_const.specs.declared.number.Pair.TheVariants as pair

abbrev pub is_unsigned : Number → Bool
is_unsigned (Signed z) = false
is_unsigned (Unsigned n) = true

abbrev pub is_zero : ℤ → Bool
is_zero (pos n) = n == 0
is_zero (negsuc n) = false

abbrev pub is_true : Number → Bool
is_true (Signed z) = not (is_zero z)
is_true (Unsigned n) = not (n == 0)

-- a negative number has 2 ^ 64 added (6.3.1.3)
abbrev pub as_unsigned : Number → ℕ
as_unsigned (Signed z) = cast_unsigned w64 z
as_unsigned (Unsigned n) = n

abbrev pub converted : Bool → Number → Number
converted unsigned n = if unsigned then Unsigned (as_unsigned n) else n

-- what a comparison or a logical operator gives (6.5.8, 6.5.9, 6.5.13, 6.5.14, 6.5.3.3)
abbrev pub truth : Bool → Number
truth b = if b then Signed (pos 1) else Signed (pos 0)

-- the usual arithmetic conversions (6.3.1.8)
abbrev pub common : Number → Number → Pair
common (Signed x) (Signed y) = pair.Signed x y
common (Signed x) (Unsigned n) = pair.Unsigned (cast_unsigned w64 x) n
common (Unsigned m) (Signed y) = pair.Unsigned m (cast_unsigned w64 y)
common (Unsigned m) (Unsigned n) = pair.Unsigned m n

-- the number is one of `intmax_t`
abbrev pub fits : ℤ → Bool
fits (pos n) = nat_lt n (2 ^ 63)
fits (negsuc n) = nat_lt n (2 ^ 63)

-- a signed result, or none where it overflows (6.5p5)
abbrev pub fit : ℤ → Option Number
fit z = if fits z then Some (Signed z) else None

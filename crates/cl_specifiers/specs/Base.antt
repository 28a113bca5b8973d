-- Type specifiers in any order (N1570 6.7.2p2).
use Rattle.std.specs.Prelude.{ℕ, ◌+◌, ◌==◌, ◌&&◌, if◌then◌else◌, nat_le, Bool, List, [], ◌∷◌, length, count_by, Option, Some, None}
use Rattle.cl_types.specs.declared.types.CType.{CType}
use Rattle.cl_types.specs.declared.types.CType.TheVariants as make
use Rattle.cl_specifiers.specs.declared.base.TypeWord.{TypeWord}
use Rattle.cl_specifiers.specs.declared.base.TypeWord.TheVariants as word

abbrev pub place : TypeWord → ℕ
place word.Void = 0
place word.Char = 1
place word.Short = 2
place word.Int = 3
place word.Long = 4
place word.Float = 5
place word.Double = 6
place word.Signed = 7
place word.Unsigned = 8
place word.Bool = 9

-- how often a word stands among words
abbrev pub times : TypeWord → List TypeWord → ℕ
times w ws = count_by (λ v. place v == place w) ws

-- so many words and no others
abbrev pub only : ℕ → List TypeWord → Bool
only n ws = length ws == n

-- at most one of `signed` and `unsigned`
abbrev pub signs : List TypeWord → ℕ
signs ws = times word.Signed ws + times word.Unsigned ws

abbrev pub alone : TypeWord → List TypeWord → Bool
alone w ws = (times w ws == 1) && only 1 ws

abbrev pub with_sign : List TypeWord → CType → CType → CType → CType
with_sign ws plain signed unsigned = if times word.Signed ws == 1 then signed else if times word.Unsigned ws == 1 then unsigned else plain

-- `char`, alone or with a sign
abbrev pub is_char : List TypeWord → Bool
is_char ws = (times word.Char ws == 1) && (nat_le (signs ws) 1 && only (1 + signs ws) ws)

-- `short`, `long` or `long long`, with or without `int`, and with at most one sign
abbrev pub is_sized : TypeWord → ℕ → List TypeWord → Bool
is_sized w n ws = (times w ws == n) && (nat_le (times word.Int ws) 1 && (nat_le (signs ws) 1 && only (n + (times word.Int ws + signs ws)) ws))

-- `int`, a sign, or `int` with a sign
abbrev pub is_int : List TypeWord → Bool
is_int ws = nat_le 1 (length ws) && (nat_le (times word.Int ws) 1 && (nat_le (signs ws) 1 && only (times word.Int ws + signs ws) ws))

-- `double`, with or without `long`
abbrev pub is_double : List TypeWord → Bool
is_double ws = (times word.Double ws == 1) && (nat_le (times word.Long ws) 1 && only (1 + times word.Long ws) ws)

abbrev pub integer_type : List TypeWord → Option CType
integer_type ws =
    if is_char ws then Some (with_sign ws make.Char make.SChar make.UChar)
    else if is_sized word.Short 1 ws then Some (with_sign ws make.Short make.Short make.UShort)
    else if is_sized word.Long 1 ws then Some (with_sign ws make.Long make.Long make.ULong)
    else if is_sized word.Long 2 ws then Some (with_sign ws make.LLong make.LLong make.ULLong)
    else if is_int ws then Some (with_sign ws make.Int make.Int make.UInt)
    else None

abbrev pub double_type : List TypeWord → CType
double_type ws = if times word.Long ws == 1 then make.LDouble else make.Double

-- the type of words, or none
abbrev pub words_type : List TypeWord → Option CType
words_type ws =
    if alone word.Void ws then Some make.Void
    else if alone word.Bool ws then Some make.Bool
    else if alone word.Float ws then Some make.Float
    else if is_double ws then Some (double_type ws)
    else integer_type ws

-- the type of a specifier list: of words alone, or of one `_Atomic(T)`, tag or typedef name alone
abbrev pub base_type : List TypeWord → List CType → Option CType
base_type ws [] = words_type ws
base_type [] (t ∷ []) = Some t
base_type _ _ = None

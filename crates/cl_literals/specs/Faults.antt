-- Faults of constants and string literals: a stray token (24), an integer constant too large (25), an invalid escape sequence (26),
-- and adjacent string literals of two prefixes (27).
use Rattle.std.specs.Prelude.{ℕ, zero, suc, ◌==◌, ◌++◌, Bool, true, false, not, ◌&&◌, ◌||◌, if◌then◌else◌, List, [], ◌∷◌, map, take, None, sum}
use Rattle.std.specs.List.{prefix_len}
use Rattle.cl_base.specs.declared.token.Diag.{Diag}
use Rattle.cl_base.specs.declared.token.Kind.{Kind}
use Rattle.cl_base.specs.declared.token.Kind.TheVariants as kind
use Rattle.cl_base.specs.declared.token.PpToken.{PpToken}
use Rattle.cl_base.specs.Characters.{char_len}
use Rattle.cl_const.specs.declared.char_type.CharType.{CharType}
use Rattle.cl_literals.specs.declared.numbers.NumberConstant.{NumberConstant}
use Rattle.cl_literals.specs.declared.numbers.NumberConstant.TheVariants.{TooLarge, NoConstant}
use Rattle.cl_literals.specs.declared.strings.Prefix.{Prefix}
use Rattle.cl_literals.specs.declared.strings.Prefix.TheVariants.{Plain, Utf8, Wide, Char16, Char32}
use Rattle.cl_literals.specs.Numbers.{number}
use Rattle.cl_literals.specs.Strings.{count, has_bad_escape, prefix_of, unit}

abbrev pub fault_of : ℕ → PpToken → Diag
fault_of n t = record { number = n; at = t.at; name = None }

abbrev pub fault_where : Bool → ℕ → PpToken → List Diag
fault_where holds n t = if holds then fault_of n t ∷ [] else []

-- ---- one token

abbrev pub number_faults : NumberConstant → PpToken → List Diag
number_faults NoConstant t = fault_of 24 t ∷ []
number_faults TooLarge t = fault_of 25 t ∷ []
number_faults _ t = []

-- what fits no token and has no fault of its own yet: no lone quote, no byte of no character, no null character
abbrev pub is_stray : List ℕ → Bool
is_stray [] = true
is_stray (byte ∷ text) = not (byte == 39 || byte == 34) && (not (char_len (byte ∷ text) 0 == 0) && not (byte == 0))

-- a token that is no string literal
abbrev pub token_faults : PpToken → Kind → List Diag
token_faults t kind.Number = number_faults (number t.text) t
token_faults t kind.Char = fault_where (has_bad_escape (unit (prefix_of t.text)) t.text) 26 t
token_faults t kind.Other = fault_where (is_stray t.text) 24 t
token_faults t _ = []

-- ---- adjacent string literals, which are one (5.1.1.2 phase 6, 6.4.5p5)

abbrev pub is_string : Kind → Bool
is_string kind.Str = true
is_string _ = false

abbrev pub is_plain : Prefix → Bool
is_plain Plain = true
is_plain _ = false

abbrev pub same_prefix : Prefix → Prefix → Bool
same_prefix Plain Plain = true
same_prefix Utf8 Utf8 = true
same_prefix Wide Wide = true
same_prefix Char16 Char16 = true
same_prefix Char32 Char32 = true
same_prefix _ _ = false

-- their prefix: the first that one of them has
abbrev pub literal_prefix : List PpToken → Prefix
literal_prefix [] = Plain
literal_prefix (t ∷ ts) = if is_plain (prefix_of t.text) then literal_prefix ts else prefix_of t.text

-- how many elements they make, without the closing zero
abbrev pub elements : CharType → List PpToken → ℕ
elements u ts = sum (map (λ t. count u t.text) ts)

abbrev pub escape_faults : CharType → List PpToken → List Diag
escape_faults u [] = []
escape_faults u (t ∷ ts) = fault_where (has_bad_escape u t.text) 26 t ++ escape_faults u ts

-- no prefix, or this one
abbrev pub keeps : Prefix → PpToken → Bool
keeps p t = is_plain (prefix_of t.text) || same_prefix p (prefix_of t.text)

-- the first with another prefix
abbrev pub mixed_faults : Prefix → List PpToken → List Diag
mixed_faults p [] = []
mixed_faults p (t ∷ ts) = if keeps p t then mixed_faults p ts else fault_of 27 t ∷ []

abbrev pub literal_faults : List PpToken → List Diag
literal_faults ts = escape_faults (unit (literal_prefix ts)) ts ++ mixed_faults (literal_prefix ts) ts

-- ---- a list of tokens

abbrev pub strings_len : List PpToken → ℕ
strings_len ts = prefix_len (λ t. is_string t.kind) ts

-- the faults of tokens, where so many belong to what is before
abbrev pub faults_from : ℕ → List PpToken → List Diag
faults_from n [] = []
faults_from (suc n) (t ∷ ts) = faults_from n ts
faults_from zero (t ∷ ts) =
    if is_string t.kind then literal_faults (take (strings_len (t ∷ ts)) (t ∷ ts)) ++ faults_from (strings_len ts) ts
    else token_faults t t.kind ++ faults_from 0 ts

abbrev pub faults : List PpToken → List Diag
faults ts = faults_from 0 ts

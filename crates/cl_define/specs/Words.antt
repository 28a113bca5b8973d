-- The tokens of a definition, by their kinds and spellings (N1570 6.10p1).
use Rattle.std.specs.Prelude.{ℕ, List, Bool, not, ◌&&◌, codes}
use Rattle.std.specs.List.{list_any}
use Rattle.cl_base.specs.declared.token.Token.{Token}
use Rattle.cl_base.specs.Tokens.{is_punct, spells}

-- this punctuator
abbrev pub is_mark : Token → List ℕ → Bool
is_mark t mark = is_punct t.kind && spells t.text mark

abbrev pub is_comma : Token → Bool
is_comma t = is_mark t (codes ",")

abbrev pub is_dots : Token → Bool
is_dots t = is_mark t (codes "...")

abbrev pub is_close : Token → Bool
is_close t = is_mark t (codes ")")

-- `lparen`: a `(` without white space directly before it
abbrev pub is_lparen : Token → Bool
is_lparen t = is_mark t (codes "(") && not t.space

-- the name is one of these
abbrev pub has : List (List ℕ) → List ℕ → Bool
has names name = list_any (λ (n : List ℕ). spells n name) names

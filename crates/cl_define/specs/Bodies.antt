-- Replacement lists, and the tokens of them that have a meaning of their own (N1570 6.10.3).
use Rattle.std.specs.Prelude.{ℕ, List, [], ◌∷◌, Bool, false, ◌&&◌, ◌||◌, map, Option, Some, None, codes}
use Rattle.cl_base.specs.declared.token.Token.{Token}
use Rattle.cl_base.specs.declared.macros.Macro.{Macro}
use Rattle.cl_base.specs.declared.macros.BodyToken.{BodyToken}
use Rattle.cl_base.specs.Tokens.{is_ident, spells}
use Rattle.cl_define.specs.Words.{has}

abbrev pub body_token : Bool → Token → BodyToken
body_token space t = record { kind = t.kind; text = t.text; space = space }

-- the replacement list of these tokens. White space before the first one is no part of it (6.10.3p7)
abbrev pub replacement_list : List Token → List BodyToken
replacement_list [] = []
replacement_list (t ∷ ts) = body_token false t ∷ map (λ (u : Token). body_token u.space u) ts

-- the named parameters; an object-like macro has none
abbrev pub named : Option (List (List ℕ)) → List (List ℕ)
named None = []
named (Some names) = names

-- the identifier that stands for the arguments past the named parameters
abbrev pub is_rest : List ℕ → Bool
is_rest name = spells name (codes "__VA_ARGS__")

-- a parameter; in a variadic macro `__VA_ARGS__` counts as one (6.10.3.1p2)
abbrev pub is_parameter : Macro → BodyToken → Bool
is_parameter m t = is_ident t.kind && (has (named m.params) t.text || (m.variadic && is_rest t.text))

-- the operator `##`, or its digraph
abbrev pub is_paste : BodyToken → Bool
is_paste t = spells t.text (codes "##") || spells t.text (codes "%:%:")

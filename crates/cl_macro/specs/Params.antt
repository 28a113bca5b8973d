-- The tokens of a macro's body (N1570 6.10.3).
use Rattle.std.specs.Prelude.{ℕ, ◌+◌, ◌==◌, Bool, true, false, not, ◌&&◌, ◌||◌, if◌then◌else◌, List, [], ◌∷◌, Option, Some, None, is_some, codes, length}
use Rattle.std.specs.List.{position}
use Rattle.cl_base.specs.declared.macros.Macro.{Macro}
use Rattle.cl_base.specs.declared.macros.BodyToken.{BodyToken}
use Rattle.cl_macro.specs.declared.word.Word.{Word}
use Rattle.cl_macro.specs.Words.{is_ident, same}

abbrev pub named : Option (List (List ℕ)) → List (List ℕ)
named None = []
named (Some names) = names

abbrev pub or_last : Option ℕ → Option ℕ → Option ℕ
or_last None last = last
or_last (Some i) last = Some i

-- what is left of the arguments of a variadic macro (6.10.3p12)
abbrev pub is_rest : Macro → BodyToken → Bool
is_rest m t = m.variadic && same t.text (codes "__VA_ARGS__")

abbrev pub rest_at : Macro → BodyToken → ℕ → Option ℕ
rest_at m t count = if is_rest m t then Some count else None

-- the number of the parameter that a token of the body is
abbrev pub param_at : Macro → BodyToken → Option ℕ
param_at m t = if is_ident t.kind
    then or_last (position (λ name. same name t.text) (named m.params)) (rest_at m t (length (named m.params)))
    else None

abbrev pub is_either : BodyToken → List ℕ → List ℕ → Bool
is_either t mark digraph = same t.text mark || same t.text digraph

abbrev pub is_paste : BodyToken → Bool
is_paste t = is_either t (codes "##") (codes "%:%:")

-- `#` is an operator in a function-like macro alone (6.10.3.2p1)
abbrev pub is_string : Macro → BodyToken → Bool
is_string m t = is_some m.params && is_either t (codes "#") (codes "%:")

-- `##` stands first
abbrev pub pastes_next : List BodyToken → Bool
pastes_next [] = false
pastes_next (t ∷ ts) = is_paste t

-- ---- which arguments are needed as they are replaced by themselves, and which as they stand (6.10.3.1)

abbrev pub is_at : ℕ → Option ℕ → Bool
is_at i None = false
is_at i (Some j) = i == j

-- it is so exactly if it is wanted so
abbrev pub as_wanted : Bool → Bool → Bool
as_wanted wanted it = if wanted then it else not it

-- the parameter of number `i` stands among these tokens beside `##` or behind `#`, if `raw`, and elsewhere, if not.
-- `after`: `##` stands before the tokens. `hash`: an operator `#` does
abbrev pub stands : Macro → Bool → ℕ → Bool → Bool → List BodyToken → Bool
stands m raw i after hash [] = false
stands m raw i after true (t ∷ ts) = (raw && is_at i (param_at m t)) || stands m raw i false false ts
stands m raw i after false (t ∷ ts) =
    if is_paste t then stands m raw i true false ts
    else if is_string m t then stands m raw i after true ts
    else (as_wanted raw (after || pastes_next ts) && is_at i (param_at m t)) || stands m raw i false false ts

-- the argument is needed so
abbrev pub is_needed : Macro → Bool → ℕ → Bool
is_needed m raw i = stands m raw i false false m.body

abbrev pub needed_one : Macro → Bool → ℕ → List Word → List Word
needed_one m raw i arg = if is_needed m raw i then arg else []

abbrev pub needed_from : Macro → Bool → ℕ → List (List Word) → List (List Word)
needed_from m raw i [] = []
needed_from m raw i (arg ∷ args) = needed_one m raw i arg ∷ needed_from m raw (i + 1) args

-- the arguments that are to be replaced by themselves, and nothing for another one
unfoldable pub asked : Macro → List (List Word) → List (List Word)
asked m args = needed_from m false 0 args

-- the arguments that are needed as they stand, and nothing for another one
unfoldable pub raws : Macro → List (List Word) → List (List Word)
raws m args = needed_from m true 0 args

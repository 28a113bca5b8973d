-- The macros that are there before a text begins (N1570 6.10.8).
use Rattle.std.specs.Prelude.{ℕ, List, [], ◌∷◌, Bool, false, None, codes}
use Rattle.std.specs.List.{list_any}
use Rattle.cl_base.specs.declared.macros.Macro.{Macro}
use Rattle.cl_base.specs.declared.macros.BodyToken.{BodyToken}
use Rattle.cl_base.specs.declared.token.Kind.{Kind}
use Rattle.cl_base.specs.declared.token.Kind.TheVariants as kind
use Rattle.cl_base.specs.Tokens.{spells}

-- an object-like macro that no text defines
abbrev pub standing : List ℕ → List BodyToken → Macro
standing name body = record { name = name; params = None; variadic = false; body = body; place = None }

abbrev pub one_token : Kind → List ℕ → List BodyToken
one_token k text = record { kind = k; text = text; space = false } ∷ []

-- the predefined macros with their values. What `__FILE__` and `__LINE__` come to depends on the place (6.10.8.1)
abbrev pub predefined : List Macro
predefined =
    standing (codes "__STDC__") (one_token kind.Number (codes "1")) ∷
    (standing (codes "__STDC_HOSTED__") (one_token kind.Number (codes "1")) ∷
    (standing (codes "__STDC_VERSION__") (one_token kind.Number (codes "201112L")) ∷
    (standing (codes "__STDC_NO_COMPLEX__") (one_token kind.Number (codes "1")) ∷
    (standing (codes "__DATE__") (one_token kind.Str (codes "\"Jan  1 1970\"")) ∷
    (standing (codes "__TIME__") (one_token kind.Str (codes "\"00:00:00\"")) ∷
    (standing (codes "__FILE__") [] ∷
    (standing (codes "__LINE__") [] ∷ [])))))))

-- the names that are neither defined nor undefined: `defined` and those of the predefined macros (6.10.8p4)
unfoldable pub reserved : List (List ℕ)
reserved =
    codes "defined" ∷ codes "__STDC__" ∷ codes "__STDC_HOSTED__" ∷ codes "__STDC_VERSION__" ∷ codes "__STDC_NO_COMPLEX__" ∷
    codes "__DATE__" ∷ codes "__TIME__" ∷ codes "__FILE__" ∷ codes "__LINE__" ∷ []

unfoldable pub is_reserved : List ℕ → Bool
is_reserved name = list_any (λ (word : List ℕ). spells word name) reserved

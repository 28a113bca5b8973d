-- Sameness as it is tested.
use Rattle.std.specs.Prelude.{ℕ, List, [], ◌∷◌, Bool, true, false, ◌&&◌, Option, Some, None}
use Rattle.std.specs.Cmp.Lexicographic.{pointwise}
use mathlib.Core.Bool.{beq}
use Rattle.cl_base.specs.declared.macros.Macro.{Macro}
use Rattle.cl_base.specs.declared.macros.BodyToken.{BodyToken}
use Rattle.cl_base.specs.Tokens.{spells}

abbrev pub same_names : Option (List (List ℕ)) → Option (List (List ℕ)) → Bool
same_names None None = true
same_names (Some a) (Some b) = pointwise spells a b
same_names _ _ = false

abbrev pub same_token : BodyToken → BodyToken → Bool
same_token a b = spells a.text b.text && beq a.space b.space

-- white space before the first token isn't looked at
abbrev pub same_list : List BodyToken → List BodyToken → Bool
same_list [] [] = true
same_list (a ∷ xs) (b ∷ ys) = spells a.text b.text && pointwise same_token xs ys
same_list _ _ = false

abbrev pub same_macro : Macro → Macro → Bool
same_macro a b = same_names a.params b.params && (beq a.variadic b.variadic && same_list a.body b.body)

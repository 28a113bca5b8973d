-- How the tokens of a text lie.
use Rattle.std.specs.Prelude.{ℕ, ◌<◌, ◌≤◌, List, [], ◌∷◌}
use Rattle.cl_base.specs.declared.token.Token.{Token}

-- between two bytes one follows the other, and none is empty
abbrev pub AreInOrder : ℕ → ℕ → List Token → Type 0
AreInOrder at end [] = at ≤ end
AreInOrder at end (token ∷ tokens) = (at ≤ token.from) × (token.from < token.to) × AreInOrder token.to end tokens

-- The tokens of a condition as the code goes over them: past the operand of each `defined`.
use Rattle.std.specs.Prelude.{ℕ, zero, suc, List, [], ◌∷◌, ◌++◌, Option}
use Rattle.cl_base.specs.declared.macros.Macro.{Macro}
use Rattle.cl_base.specs.declared.token.Token.{Token}
use Rattle.cl_base.specs.declared.token.PpToken.{PpToken}
use Rattle.cl_pp.specs.Defined.{asked_for, replaced, taken}

-- the tokens of a condition, where so many belong to what is before
abbrev pub decided_from : ℕ → (List ℕ → Option Macro) → ℕ → List Token → List PpToken
decided_from file macros n [] = []
decided_from file macros (suc n) (t ∷ ts) = decided_from file macros n ts
decided_from file macros zero (t ∷ ts) = replaced file macros t ts ∷ decided_from file macros (taken t ts) ts

-- the names that it asks for
abbrev pub asked_from : ℕ → List Token → List (List ℕ)
asked_from n [] = []
asked_from (suc n) (t ∷ ts) = asked_from n ts
asked_from zero (t ∷ ts) = asked_for t ts ++ asked_from (taken t ts) ts

-- The operand of an include line, where the code has it.
use Rattle.std.specs.Prelude.{◌≡◌, ℕ, Bool, true, false, List, Option}
use Rattle.cl_base.specs.declared.macros.MacroNo.{MacroNo}
use Rattle.cl_base.specs.declared.token.PpToken.{PpToken}
use Rattle.cl_base.specs.declared.token.Span.{Span}
use Rattle.cl_macro.specs.declared.expanded.Expanded.{Expanded}
use Rattle.cl_macro.specs.Expansions.{IsExpansion}
use Rattle.cl_macro.specs.Rules.{Rules}
use Rattle.cl_pp.specs.declared.done.PpDone.{PpDone}
use Rattle.cl_pp.specs.Standing.{with_asked}

-- it is replaced
pub record WasReplaced (rules_at : Span → Rules) (numbers : List ℕ → Option MacroNo) (run tokens : List PpToken) (old new : PpDone) : Type 0 where
  pub all : Expanded
  pub expands : IsExpansion rules_at numbers run all
  pub made : tokens ≡ all.tokens
  pub is : new ≡ with_asked all old

-- or taken as it is written
abbrev pub IsOperand : Bool → (Span → Rules) → (List ℕ → Option MacroNo) → List PpToken → List PpToken → PpDone → PpDone → Type 0
IsOperand true rules_at numbers run tokens old new = (tokens ≡ run) × (new ≡ old)
IsOperand false rules_at numbers run tokens old new = WasReplaced rules_at numbers run tokens old new

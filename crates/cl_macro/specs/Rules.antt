-- What replacement goes by.
use Rattle.std.specs.Prelude.{ℕ, List, Option, MatchOption}
use Rattle.cl_base.specs.declared.token.Kind.{Kind}
use Rattle.cl_base.specs.declared.macros.Macro.{Macro}
use Rattle.cl_lex.specs.Items.{IsOneToken}

-- where an outermost invocation stands (N1570 6.10.8.1)
pub record Here : Type 0 where
  -- the string literal of the file's path
  pub file : List ℕ
  -- the number of the line, from 1
  pub line : ℕ

pub record Rules : Type 0 where
  -- the macro of a name, if it has one
  pub macros : List ℕ → Option Macro
  -- the kind of the one token that is so spelled, if it is one
  pub one_token : List ℕ → Option Kind
  pub here : Here

-- it tells of each spelling whether it is one token (6.4)
abbrev pub TellsTokens : (List ℕ → Option Kind) → Type 0
TellsTokens one_token = (text : List ℕ) → MatchOption (one_token text) ((k : Kind) → IsOneToken text k → ⊥) (λ k. IsOneToken text k)

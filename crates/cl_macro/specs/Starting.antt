-- The macros that are there before a text begins: the predefined ones (N1570 6.10.8) and those that a config defines.
use Rattle.std.specs.Prelude.{◌≡◌, ℕ, List, [], ◌∷◌, ◌++◌, Option, Some, None, if◌then◌else◌, MatchOption, option_to_list}
use Rattle.cl_base.specs.declared.config.Define.{Define}
use Rattle.cl_base.specs.declared.macros.Macro.{Macro}
use Rattle.cl_base.specs.declared.token.Lexed.{Lexed}
use Rattle.cl_lex.specs.Lexing.{Lexes}
use Rattle.cl_define.specs.Definitions.{Stands}
use Rattle.cl_define.specs.Predefined.{predefined}
use Rattle.cl_macro.specs.declared.table.MacroTable.{MacroTable}
use Rattle.cl_macro.specs.Table.{event_of, is_name, macro_of}

-- what a define of a config comes to: the object-like macro whose replacement list is the tokens of its text. One that no
-- line may define has no effect
pub record Comes (d : Define) (m : Option Macro) : Type 0 where
  pub lexed : Lexed
  pub lexes : Lexes d.text lexed
  pub stands : MatchOption m ((mac : Macro) → Stands d.name lexed.tokens mac → ⊥) (Stands d.name lexed.tokens)

-- what all come to, in order
pub data Given : List Define → List Macro → Type 0 where
  none : Given [] []
  more : (d : Define) (ds : List Define) (m : Option Macro) (ms : List Macro) → Comes d m → Given ds ms → Given (d ∷ ds) (option_to_list m ++ ms)

-- the last one of this name, else `found`
abbrev pub last_of : List Macro → List ℕ → Option Macro → Option Macro
last_of [] name found = found
last_of (m ∷ ms) name found = last_of ms name (if is_name m.name name then Some m else found)

-- the macro that a name has before a text begins, if it has one, where the defines come to these: the last of its name, else
-- the base's
abbrev pub start_over : List Macro → (List ℕ → Option Macro) → List ℕ → Option Macro
start_over given base name = last_of (predefined ++ given) name (base name)

-- where there is no base
abbrev pub start_of : List Macro → List ℕ → Option Macro
start_of given = start_over given (λ other. None)

-- names have the macros that they have before a text begins, and there has been no event
pub record IsStart (defines : List Define) (table : MacroTable) : Type 0 where
  pub macros : List Macro
  pub given : Given defines macros
  pub macros_are : (base : List ℕ → Option Macro) (name : List ℕ) → macro_of table base name ≡ start_over macros base name
  pub unnumbered : (name : List ℕ) → event_of table (λ other. None) name ≡ None
  pub count : table.events ≡ 0

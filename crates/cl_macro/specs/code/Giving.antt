-- What a table becomes where macros are put into it without an event.
use Rattle.std.specs.Prelude.{◌≡◌, ℕ, List, Option, None}
use Rattle.cl_base.specs.declared.macros.Macro.{Macro}
use Rattle.cl_macro.specs.declared.table.MacroTable.{MacroTable}
use Rattle.cl_macro.specs.Starting.{last_of}
use Rattle.cl_macro.specs.Table.{event_of, macro_of}

-- names have been given these macros, in order, and there has been no event
pub record IsGiven (macros : List Macro) (old new : MacroTable) : Type 0 where
  pub macros_are : (base : List ℕ → Option Macro) (name : List ℕ) → macro_of new base name ≡ last_of macros name (macro_of old base name)
  pub unnumbered : (name : List ℕ) → event_of old (λ other. None) name ≡ None → event_of new (λ other. None) name ≡ None
  pub count : new.events ≡ old.events

use Rattle.std.proofs.Common.{◌≡◌, ℕ, List, None, Option, length, reverse}
use Rattle.cl_base.specs.declared.macros.Macro.{Macro}
use Rattle.cl_macro.specs.Table.{event_of, macro_of}
use Rattle.cl_macro.specs.Starting.{last_of}
use Rattle.cl_macro.proofs.table.MacroTable.begin.Given as goal

abbrev pub invariant-loop-mac : goal.invariant-loop-mac
invariant-loop-mac l = record {
  macros : (base : List ℕ → Option Macro) (name : List ℕ) → last_of l.fn.macros name (macro_of l.fn.self base name) ≡ last_of (reverse l.rest) name (macro_of l.self base name);
  unnumbered : (name : List ℕ) → event_of l.fn.self (λ other. None) name ≡ None → event_of l.self (λ other. None) name ≡ None;
  count : l.self.events ≡ l.fn.self.events;
}

abbrev pub decreases-loop-mac : goal.decreases-loop-mac
decreases-loop-mac l = length l.rest

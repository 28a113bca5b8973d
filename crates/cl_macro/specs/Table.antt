-- The macros of a table over a base.
use Rattle.std.specs.Prelude.{◌≡◌, ℕ, ◌+◌, if◌then◌else◌, List, Option, Some, None, Bool}
use Rattle.std.specs.Cmp.Lexicographic.{slice_cmp}
use Rattle.std.specs.Ordering.{nat_cmp, is_eq}
use Rattle.std.specs.BTreeMap.{get}
use Rattle.cl_base.specs.declared.macros.Macro.{Macro}
use Rattle.cl_base.specs.declared.macros.MacroNo.{MacroNo}
use Rattle.cl_macro.specs.declared.table.Entry.{Entry}
use Rattle.cl_macro.specs.declared.table.MacroTable.{MacroTable}

-- what the table has of a name; None: nothing happened to it there
abbrev pub entry_of : MacroTable → List ℕ → Option Entry
entry_of table name = get (slice_cmp nat_cmp) table.entries name

abbrev pub macro_by : Option Entry → Option Macro → Option Macro
macro_by None base = base
macro_by (Some e) base = e.set

abbrev pub event_by : Option Entry → Option MacroNo → Option MacroNo
event_by None base = base
event_by (Some e) base = e.event

-- the macro of a name, if it has one, over a base that gives names these macros
abbrev pub macro_of : MacroTable → (List ℕ → Option Macro) → List ℕ → Option Macro
macro_of table base name = macro_by (entry_of table name) (base name)

-- the number of a name's last event, if it has one, over a base where names have these
abbrev pub event_of : MacroTable → (List ℕ → Option MacroNo) → List ℕ → Option MacroNo
event_of table base name = event_by (entry_of table name) (base name)

-- two names are one: neither goes before the other in the order of their bytes
abbrev pub is_name : List ℕ → List ℕ → Bool
is_name name other = is_eq (slice_cmp nat_cmp name other)

-- nothing has changed
pub record IsAsBefore (old new : MacroTable) : Type 0 where
  pub entries : (name : List ℕ) → entry_of new name ≡ entry_of old name
  pub count : new.events ≡ old.events

-- the next event has given the name this macro, or none
pub record IsPut (name : List ℕ) (set : Option Macro) (old new : MacroTable) : Type 0 where
  pub macros : (base : List ℕ → Option Macro) (other : List ℕ) → macro_of new base other ≡ (if is_name name other then set else macro_of old base other)
  pub events : (base : List ℕ → Option MacroNo) (other : List ℕ)
      → event_of new base other ≡ (if is_name name other then Some (record { 0 = old.events }) else event_of old base other)
  pub count : new.events ≡ old.events + 1

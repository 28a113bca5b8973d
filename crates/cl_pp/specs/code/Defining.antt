-- A definition whose name has been looked at.
use Rattle.std.specs.Prelude.{ℕ, List, Some}
use Rattle.cl_base.specs.declared.macros.Macro.{Macro}
use Rattle.cl_base.specs.declared.macros.MacroEvent.{MacroEvent}
use Rattle.cl_base.specs.declared.token.Token.{Token}
use Rattle.cl_macro.specs.declared.define.Defined.{Defined}
use Rattle.cl_macro.specs.declared.define.Defined.TheVariants as defined
use Rattle.cl_pp.specs.declared.done.PpDone.{PpDone}
use Rattle.cl_pp.specs.Lines.{redefined}
use Rattle.cl_pp.specs.Standing.{with_faults, with_set}

abbrev pub event_of : List ℕ → Macro → MacroEvent
event_of name mac = record { name = name; set = Some mac }

abbrev pub defined_after : ℕ → Defined → List ℕ → Macro → List Token → PpDone → PpDone
defined_after file defined.New name mac tokens done = with_set name (Some mac) done
defined_after file defined.Same name mac tokens done = done
defined_after file (defined.Replaced place) name mac tokens done = with_faults (redefined file name tokens) (with_set name (Some mac) done)

-- How the code goes over lines.
use Rattle.std.specs.Prelude.{ℕ, Bool, List, Option}
use Rattle.std.specs.Ordering.{nat_cmp}
use Rattle.std.specs.BTreeMap.{get}
use Rattle.cl_pp.specs.declared.aim.Aim.{Aim}
use Rattle.cl_pp.specs.declared.done.PpDone.{PpDone}
use Rattle.cl_base.specs.declared.token.Token.{Token}
use Rattle.cl_cond.specs.declared.mark.Mark.{Mark}
use Rattle.cl_pp.specs.Activity.{Question}
use Rattle.cl_pp.specs.Acts.{act}
use Rattle.cl_pp.specs.Preprocessing.{World, rules_in}
use Rattle.cl_pp.specs.Taking.{Comes}
use Rattle.cl_pp.specs.code.Keeping.{lookup, number_of}
use Rattle.cl_pp.specs.declared.made.File.{File}
use Rattle.cl_macro.specs.declared.table.MacroTable.{MacroTable}
use Rattle.cl_base.specs.declared.macros.Macro.{Macro}
use Rattle.cl_base.specs.declared.macros.MacroNo.{MacroNo}

-- what a line comes to by the macros that are kept
abbrev pub ComesBy : (List ℕ → Option Macro) → (List ℕ → Option MacroNo) → File → World → MacroTable → (Question → Bool) → Mark → List Token → PpDone → Bool → Aim → PpDone → Type 0
ComesBy macros numbers file w table answer mark line old held aim new =
    Comes file.number (rules_in w (lookup macros table)) (number_of numbers table) line (act file.number (get nat_cmp file.told.now) (lookup macros table) mark.part answer line old) held aim new

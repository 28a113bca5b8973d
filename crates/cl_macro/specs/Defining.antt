-- What a definition is, where its name may have a macro (N1570 6.10.3p1, p2).
use Rattle.std.specs.Prelude.{◌≡◌, Option, Some, None}
use Rattle.cl_base.specs.declared.macros.Macro.{Macro}
use Rattle.cl_define.specs.Sameness.{IsSame}
use Rattle.cl_macro.specs.declared.define.Defined.{Defined}
use Rattle.cl_macro.specs.declared.define.Defined.TheVariants as defined
use Rattle.cl_macro.specs.declared.table.MacroTable.{MacroTable}
use Rattle.cl_macro.specs.Table.{IsAsBefore, IsPut}

-- where the name has the macro `old`
abbrev pub IsOver : Macro → Macro → Defined → Type 0
IsOver old new defined.New = ⊥
IsOver old new defined.Same = IsSame old new
IsOver old new (defined.Replaced place) = (IsSame old new → ⊥) × (place ≡ old.place)

abbrev pub IsDefined : Option Macro → Macro → Defined → Type 0
IsDefined None new answer = answer ≡ defined.New
IsDefined (Some old) new answer = IsOver old new answer

-- what it does to the table
abbrev pub Defines : Macro → Defined → MacroTable → MacroTable → Type 0
Defines new defined.New before after = IsPut new.name (Some new) before after
Defines new defined.Same before after = IsAsBefore before after
Defines new (defined.Replaced place) before after = IsPut new.name (Some new) before after

use Rattle.std.proofs.Common.{◌∙◌, List, None, sym, ap, subst}
use Rattle.cl_base.specs.declared.config.Define.{Define}
use Rattle.cl_base.specs.declared.macros.Macro.{Macro}
use Rattle.cl_define.specs.Predefined.{predefined}
use Rattle.cl_macro.specs.Table.{macro_of}
use Rattle.cl_macro.specs.Starting.{Given, last_of}
use Rattle.cl_macro.proofs.Starting.{last_more}
use Rattle.cl_macro.proofs.table.MacroTable.start.Goals as goal

pub returns : goal.returns
returns c = record {
  macros = c.in_ok-macros-2.macros;
  given = subst (λ (ds : List Define). Given ds c.in_ok-macros-2.macros) (c.as_slice.ensures.value ∙ c.defines.ensures) c.in_ok-macros-2.ensures;
  macros_are = λ base name. c.in_ok-begin-2.ensures.macros_are base name
      ∙ ap (λ found. last_of c.in_ok-macros-2.macros name found) (c.in_ok-begin.ensures.macros_are base name
      ∙ ap (λ (ms : List Macro). last_of ms name (macro_of c.new-table.result base name)) c.in_ok-macros.ensures ∙ ap (λ found. last_of predefined name found) (c.new-table.ensures.macros base name))
      ∙ sym (last_more predefined c.in_ok-macros-2.macros name (base name));
  unnumbered = λ name. c.in_ok-begin-2.ensures.unnumbered name (c.in_ok-begin.ensures.unnumbered name (c.new-table.ensures.events (λ other. None) name));
  count = c.in_ok-begin-2.ensures.count ∙ c.in_ok-begin.ensures.count ∙ c.new-table.ensures.count;
}

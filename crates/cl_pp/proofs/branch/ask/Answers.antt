use Rattle.std.proofs.Common.{refl, subst, sym, ap, ◌∙◌, List, map, length}
use Rattle.cl_base.specs.declared.token.PpToken.{PpToken}
use Rattle.cl_macro.specs.Levels.{Within as AreWithin}
use Rattle.cl_macro.specs.Words.{fresh}
use Rattle.cl_pp.specs.Defined.{asked, decided}
use Rattle.cl_pp.specs.Lines.{rest_of}
use Rattle.cl_pp.specs.code.Keeping.{lookup, number_of}
use Rattle.cl_pp.specs.Preprocessing.{rules_in}
use Rattle.cl_pp.proofs.Replaces.{condition_is}
use Rattle.cl_pp.proofs.Withins.{within_decided, within_rest}
use Rattle.cl_pp.proofs.branch.ask.Goals as goal

pub returns-clause-done : goal.returns-clause-done
returns-clause-done g c = λ w s v.
    let e = c.as_slice-2.ensures.value ∙ c.in_ok-tokens.ensures ∙ ap (decided c.args.file.now.number (lookup (g.B.MacroBase.macros c.args.base.now) c.args.table.now)) c.rest_of-2.ensures in
    condition_is c.args.file.now.number (rules_in w (lookup (g.B.MacroBase.macros c.args.base.now) c.args.table.now)) (number_of (g.B.MacroBase.events c.args.base.now) c.args.table.now) c.args.line.now c.len.result c.as_slice-2.result.now (decided c.args.file.now.number (lookup (g.B.MacroBase.macros c.args.base.now) c.args.table.now) (rest_of c.args.line.now)) c.in_ok-tokens-2.tokens
    c.as_slice-3.result.now c.as_slice-4.result.now c.as_slice.result.now (asked (rest_of c.args.line.now)) c.args.made.now.done c.look_all.new.made.done c.replaced.new.made.done _ c.in_ok-value.value _
    c.in_ok-look_all.ensures.done (c.as_slice.ensures.value ∙ c.in_ok-names.ensures ∙ ap asked c.rest_of.ensures)
    (c.in_ok-tokens-2.ensures.done w s (subst (λ (ts : List PpToken). AreWithin w.text (map fresh ts)) (sym e) (within_decided c.args.file.now.number (lookup (g.B.MacroBase.macros c.args.base.now) c.args.table.now) w.text (rest_of c.args.line.now) (within_rest (length w.text) c.args.line.now v))))
    c.len.ensures.value e c.in_ok-value.ensures c.as_slice-3.ensures.value c.as_slice-4.ensures.value c.is_true.ensures refl refl refl refl refl refl refl c.in_ok-bad_if.ensures

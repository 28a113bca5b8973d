use Rattle.std.proofs.Common.{Bool, false, subst, sym, ap, ◌∙◌, List, map}
use Rattle.std.specs.Prelude.{if◌then◌else◌, is_some}
use Rattle.cl_base.specs.declared.token.PpToken.{PpToken}
use Rattle.cl_macro.specs.Levels.{Within as AreWithin}
use Rattle.cl_macro.specs.Words.{fresh}
use Rattle.cl_pp.specs.Acts.{Checks, Gives}
use Rattle.cl_pp.specs.LineNumbers.{misfit}
use Rattle.cl_pp.specs.Lines.{spread_line}
use Rattle.cl_pp.specs.Preprocessing.{rules_in}
use Rattle.cl_pp.specs.Taking.{Takes}
use Rattle.cl_pp.specs.code.Keeping.{lookup, number_of}
use Rattle.cl_pp.proofs.Withins.{within_spread}
use Rattle.cl_pp.proofs.directive.checking.Goals as goal

pub returns-clause-done : goal.returns-clause-done
returns-clause-done g c = λ w s v.
    let e = c.as_slice-2.ensures.value ∙ c.in_ok-tokens.ensures in
    let b = c.is_wrong-wrong.ensures ∙ ap (λ (ts : List PpToken). is_some (misfit ts)) (c.as_slice.ensures.value ∙ c.in_ok-tokens.ensures) in
    subst (λ (x : Bool). Takes c.args.file.now.number (rules_in w (lookup (g.B.MacroBase.macros c.args.base.now) c.args.table.now)) (number_of (g.B.MacroBase.events c.args.base.now) c.args.table.now) c.args.line.now (if x then Checks (spread_line c.args.file.now.number c.args.rest.now) c.args.made.now.done else Gives false c.args.made.now.done) false c.checked_if.new.made.done) b
    (subst (λ (ts : List PpToken). Takes c.args.file.now.number (rules_in w (lookup (g.B.MacroBase.macros c.args.base.now) c.args.table.now)) (number_of (g.B.MacroBase.events c.args.base.now) c.args.table.now) c.args.line.now (if c.is_wrong-wrong.result then Checks ts c.args.made.now.done else Gives false c.args.made.now.done) false c.checked_if.new.made.done) e
    (c.in_ok-checked_if.ensures.done w s (subst (λ (ts : List PpToken). AreWithin w.text (map fresh ts)) (sym e) (within_spread c.args.file.now.number w.text c.args.rest.now v))))

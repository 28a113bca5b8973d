use Rattle.std.proofs.Common.{refl, subst, sym, ◌∙◌, List, map}
use Rattle.cl_base.specs.declared.token.PpToken.{PpToken}
use Rattle.cl_macro.specs.Levels.{Within as AreWithin}
use Rattle.cl_macro.specs.Words.{fresh}
use Rattle.cl_pp.specs.code.Keeping.{lookup, number_of}
use Rattle.cl_pp.specs.Preprocessing.{rules_in}
use Rattle.cl_pp.proofs.Replaces.{run_is}
use Rattle.cl_pp.proofs.Withins.{within_spread}
use Rattle.cl_pp.proofs.replacing.run_line.Goals as goal

pub returns-clause-done : goal.returns-clause-done
returns-clause-done g c = λ w s v.
    let e = c.as_slice.ensures.value ∙ c.in_ok-run.ensures in
    run_is (rules_in w (lookup (g.B.MacroBase.macros c.args.base.now) c.args.table.now)) (number_of (g.B.MacroBase.events c.args.base.now) c.args.table.now) c.len.result _ _ c.in_ok-tokens.tokens c.args.made.now.done c.replaced.new.made.done _
    (c.in_ok-tokens.ensures.done w s (subst (λ (ts : List PpToken). AreWithin w.text (map fresh ts)) (sym e) (within_spread c.args.file.now.number w.text c.args.line.now v)))
    e c.len.ensures.value c.in_ok-append.ensures refl refl refl refl refl refl refl

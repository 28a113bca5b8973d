use Rattle.std.proofs.Common.{List, map, subst, sym, ◌∙◌}
use Rattle.cl_base.specs.declared.token.PpToken.{PpToken}
use Rattle.cl_macro.specs.Levels.{Within as AreWithin}
use Rattle.cl_macro.specs.Words.{fresh}
use Rattle.cl_pp.specs.Including.{is_written}
use Rattle.cl_pp.specs.Lines.{spread_line}
use Rattle.cl_pp.specs.Preprocessing.{rules_in}
use Rattle.cl_pp.specs.code.Keeping.{lookup, number_of}
use Rattle.cl_pp.proofs.Replaces.{operand_is}
use Rattle.cl_pp.proofs.Withins.{within_spread}
use Rattle.cl_pp.proofs.include.operand.Goals as goal

pub returns-clause-done : goal.returns-clause-done
returns-clause-done g c = λ w s v.
    let e = c.as_slice.ensures.value ∙ c.in_ok-tokens.ensures in
    operand_is (is_written c.args.rest.now) (rules_in w (lookup (g.B.MacroBase.macros c.args.base.now) c.args.table.now)) (number_of (g.B.MacroBase.events c.args.base.now) c.args.table.now) c.len.result c.as_slice.result.now (spread_line c.args.file.now.number c.args.rest.now) c.in_ok-tokens-2.tokens
    c.args.made.now.done c.replaced.new.made.done (sym c.is_written.ensures ∙ c.if-is_written.false)
    (c.in_ok-tokens-2.ensures.done w s (subst (λ (ts : List PpToken). AreWithin w.text (map fresh ts)) (sym e) (within_spread c.args.file.now.number w.text c.args.rest.now v)))
    c.len.ensures.value e

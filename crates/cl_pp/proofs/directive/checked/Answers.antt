use Rattle.std.proofs.Common.{refl}
use Rattle.cl_pp.specs.code.Keeping.{lookup, number_of}
use Rattle.cl_pp.specs.Preprocessing.{rules_in}
use Rattle.cl_pp.proofs.Replaces.{checked_is}
use Rattle.cl_pp.proofs.directive.checked.Goals as goal

pub returns-clause-done : goal.returns-clause-done
returns-clause-done g c = λ w s v.
    checked_is c.args.file.now.number (rules_in w (lookup (g.B.MacroBase.macros c.args.base.now) c.args.table.now)) (number_of (g.B.MacroBase.events c.args.base.now) c.args.table.now) c.args.line.now c.len.result c.args.tokens.now c.in_ok-tokens.tokens c.as_slice.result.now c.as_slice-2.result.now c.args.made.now.done c.replaced.new.made.done _ c.misfit-place.result
    (c.in_ok-tokens.ensures.done w s v) c.len.ensures.value c.misfit-place.ensures c.as_slice.ensures.value c.as_slice-2.ensures.value refl refl refl refl refl refl refl c.in_ok-bad_line.ensures

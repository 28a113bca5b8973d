use Rattle.std.proofs.Common.{rules}
use Rattle.cl_pp.specs.Preprocessing.{rules_in}
use Rattle.cl_pp.specs.code.Keeping.{lookup, number_of}
use Rattle.cl_pp.proofs.Replaces.{plain_define}
use Rattle.cl_pp.proofs.directive.plain.Goals as goal

pub returns-then-is_word-clause-done : goal.returns-then-is_word-clause-done
returns-then-is_word-clause-done g c = λ w s v.
    plain_define c.args.file.now.number (rules_in w (lookup (g.B.MacroBase.macros c.args.base.now) c.args.table.now)) (number_of (g.B.MacroBase.events c.args.base.now) c.args.table.now) c.args.line.now c.args.name.now c.args.rest.now c.args.made.now.done c.defining.new.made.done c.defining.result (search rules) (c.defining.ensures.done w c.args.line.now)

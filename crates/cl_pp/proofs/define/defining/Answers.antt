use Rattle.std.proofs.Common.{rules}
use Rattle.cl_pp.specs.Preprocessing.{rules_in}
use Rattle.cl_pp.specs.code.Keeping.{lookup, number_of}
use Rattle.cl_pp.proofs.Replaces.{defines_by}
use Rattle.cl_pp.proofs.define.defining.Goals as goal

pub returns-clause-done : goal.returns-clause-done
returns-clause-done g c = λ w line.
    defines_by c.args.file (rules_in w (lookup (g.B.MacroBase.macros c.args.base.now) c.args.table.now)) (number_of (g.B.MacroBase.events c.args.base.now) c.args.table.now) line c.args.name.now c.in-Some.token.now c.args.rest.now _ c.args.made.now.done _
    c.in-Some.ensures.cases.0 (search rules) (c.in_ok-define.ensures.done w)

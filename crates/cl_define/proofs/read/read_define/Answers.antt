use Rattle.std.proofs.Common.{ap, subst, sym, ◌∙◌}
use Rattle.cl_define.specs.Definitions.{Defines}
use Rattle.cl_define.specs.code.Reading.{checked}
use Rattle.cl_define.proofs.Told.{Tells, line_tells}
use Rattle.cl_define.proofs.read.read_define.Goals as goal

pub returns : goal.returns
returns c = subst (Tells (Defines c.args.place c.args.line.now)) (sym (c.in_ok-found-2.ensures ∙ ap checked c.in_ok-found.ensures)) (line_tells c.args.place c.args.line.now)

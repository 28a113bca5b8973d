use Rattle.std.proofs.Common.{Some, ap, subst, sym, ◌∙◌}
use Rattle.cl_base.specs.declared.macros.Macro.{Macro}
use Rattle.cl_define.specs.Definitions.{Stands}
use Rattle.cl_define.specs.code.Reading.{checked}
use Rattle.cl_define.proofs.Told.{Tells, object_tells}
use Rattle.cl_define.proofs.read.object_like.Goals as goal

pub returns : goal.returns
returns c =
    subst (Tells (Stands c.args.name.now c.args.list.now)) (sym (c.in_ok-found.ensures ∙ ap (λ (m : Macro). checked (Some m)) c.in_ok-mac.ensures)) (object_tells c.args.name.now c.args.list.now)

use Rattle.std.proofs.Common.{sym, subst}
use Rattle.cl_macro.specs.declared.part.Part.{Part}
use Rattle.cl_macro.specs.declared.part.Part.TheVariants as part
use Rattle.cl_macro.specs.Pasting.{glue}
use Rattle.cl_macro.specs.Resuming.{GluedAs}
use Rattle.cl_macro.proofs.joint.glue.Goals as goal

pub returns-in_ok-glued-in-Token-Token : goal.returns-in_ok-glued-in-Token-Token
returns-in_ok-glued-in-Token-Token c = λ o t. let g = c.in_ok-glued-in-Token-Token.glued in
    subst (λ (x : Part). GluedAs (glue o x c.args.right) x c.args.right g) (sym c.in-Token-Token.is-0)
    (subst (λ (y : Part). GluedAs (glue o (part.Token c.in-Token-Token.left) y) (part.Token c.in-Token-Token.left) y g) (sym c.in-Token-Token.is-1)
    (c.in_ok-glued-in-Token-Token.ensures o t))

use Rattle.std.proofs.Common.{subst, sym}
use Rattle.std.specs.Bool.{Decides}
use Rattle.std.specs.Prelude.{Bool}
use Rattle.cl_define.specs.Sameness.{IsSame}
use Rattle.cl_define.proofs.Alike.{macro_Decides}
use Rattle.cl_define.proofs.same.is_same.Goals as goal

pub returns : goal.returns
returns c = subst (λ (b : Bool). Decides b (IsSame c.args.a.now c.args.b.now)) (sym c.same_macro.ensures) (macro_Decides c.args.a.now c.args.b.now)

use Rattle.std.proofs.Common.{ap}
use Rattle.cl_pp.specs.declared.done.PpDone.{PpDone}
use Rattle.cl_pp.proofs.Seeing.{looked_at}
use Rattle.cl_pp.proofs.looked.look.Goals as goal

pub returns-clause-sees : goal.returns-clause-sees
returns-clause-sees c =
    looked_at c.put.result c.args.made.now c.add.new.made c.put.new.self c.args.name.now c.requires c.in_ok-add.ensures.sees (ap (λ (x : PpDone). x.looked) c.in_ok-add.ensures.done) c.add.ensures.recent
    c.put.ensures.names c.put.ensures.recent

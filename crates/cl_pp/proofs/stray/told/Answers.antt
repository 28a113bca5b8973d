use Rattle.std.proofs.Common.{arith}
use Rattle.std.proofs.lemmas.Grind.{common_steps}
use Rattle.cl_pp.proofs.Straying.{told_more}
use Rattle.cl_pp.proofs.stray.told.Goals as goal

pub loop-fault-preserved : goal.loop-fault-preserved
loop-fault-preserved c = λ at. grind (arith, common_steps, told_more, c.loop-fault.invariant at)

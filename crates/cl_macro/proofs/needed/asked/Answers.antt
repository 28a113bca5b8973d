use Rattle.cl_macro.proofs.Needing.{asked_on}
use Rattle.cl_macro.proofs.needed.asked.Goals as goal

pub loop-arg-preserved : goal.loop-arg-preserved
loop-arg-preserved c = asked_on c.args.mac.now _ _ _ _ _ c.in-Some.arg _ _ c.loop-arg.invariant c.in-Some.ensures.items c.len.ensures.value c.asked_one-arg.ensures c.in_ok-push.ensures.ok

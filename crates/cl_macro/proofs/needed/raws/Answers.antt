use Rattle.std.proofs.Common.{refl}
use Rattle.std.proofs.lemmas.Option.{slice_get_read}
use Rattle.cl_macro.proofs.Needing.{raws_on}
use Rattle.cl_macro.proofs.needed.raws.Goals as goal

pub loop-arg-preserved : goal.loop-arg-preserved
loop-arg-preserved c = raws_on c.args.mac.now _ _ _ c.arg-item.result _ _ _ c.loop-arg.invariant
    (slice_get_read _ _ _ _ refl c.loop-arg-test.true c.arg-item.is) c.len.ensures.value c.in_ok-raw_one.ensures c.in_ok-push.ensures.ok

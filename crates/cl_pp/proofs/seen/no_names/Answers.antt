use Rattle.std.proofs.Common.{sym, subst}
use Rattle.cl_pp.specs.code.Seeing.{AreEmpty}
use Rattle.cl_pp.proofs.Seeing.{none_more}
use Rattle.cl_pp.proofs.seen.no_names.Goals as goal

pub loop-preserved : goal.loop-preserved
loop-preserved c = subst AreEmpty (sym c.in_ok-push.ensures.items) (none_more c.loop.places.items c.loop.invariant)

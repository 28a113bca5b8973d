use Rattle.std.specs.Ordering.{nat_cmp}
use Rattle.std.specs.BTreeMap.{get}
use Rattle.cl_pp.proofs.Straying.{strays_all, strays_on}
use Rattle.cl_pp.proofs.stray.strays.Goals as goal

pub loop-token-preserved : goal.loop-token-preserved
loop-token-preserved c =
    strays_on c.args.file (get nat_cmp c.args.told.now) c.args.line.now c.loop-token.token-index c.token-item.result c.args.faults.now c.loop-token.faults c.stray.new.faults c.loop-token-test.true c.token-item.is c.loop-token.invariant
    c.in_ok-stray.ensures

pub returns : goal.returns
returns c = strays_all c.args.file (get nat_cmp c.args.told.now) c.args.line.now c.loop-token.token-index c.args.faults.now c.loop-token.faults c.loop-token-test.false c.loop-token.invariant

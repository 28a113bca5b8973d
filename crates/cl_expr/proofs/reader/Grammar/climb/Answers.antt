use Rattle.std.proofs.Common.{arith}
use Rattle.cl_expr.proofs.Climb.{climbs_start, climbs_stuck, climbs_on, climbs_end}
use Rattle.cl_expr.proofs.Conditions.{suffix}
use Rattle.cl_expr.proofs.reader.Grammar.climb.Goals as goal

pub loop-start-init : goal.loop-start-init
loop-start-init g c = climbs_start c.args.self.now.tokens.now c.args.self.now.depth c.args.before.now c.args.goal c.args.first c.requires.first

pub step-requires-clause-left : goal.step-requires-clause-left
step-requires-clause-left g c = c.loop-start.invariant.sound

pub step-requires-clause-goes_on : goal.step-requires-clause-goes_on
step-requires-clause-goes_on g c = c.in-Some.ensures.some.1

pub step-requires-clause-start : goal.step-requires-clause-start
step-requires-clause-start g c = (suffix c.args.goal c.in-Some.start c.in-Some.ensures.some.0).0

pub returns-in_default-2 : goal.returns-in_default-2
returns-in_default-2 g c =
    climbs_stuck c.args.self.now.tokens.now c.args.self.now.depth c.args.before.now c.args.goal c.args.first c.loop-start.left c.loop-start.invariant
    c.in-Some.start c.in-Some.ensures.some.0 c.in-Some.ensures.some.1 (rw c.in_default-2.is at c.in_ok-next.ensures)

pub loop-start-smaller : goal.loop-start-smaller
loop-start-smaller g c = let p = (rw c.in-Some-2.is at c.in_ok-next.ensures) in let f = p.found in omega (arith, f.2, f.0.within)

pub loop-start-preserved : goal.loop-start-preserved
loop-start-preserved g c =
    climbs_on c.args.self.now.tokens.now c.args.self.now.depth c.args.before.now c.args.goal c.args.first c.loop-start.left c.loop-start.invariant
    c.in-Some.start c.in-Some.ensures.some.0 c.in-Some.ensures.some.1 c.in-Some-2.next (rw c.in-Some-2.is at c.in_ok-next.ensures)

pub returns : goal.returns
returns g c =
    climbs_end c.args.self.now.tokens.now c.args.self.now.depth c.args.before.now c.args.goal c.args.first c.loop-start.left c.loop-start.invariant
    (λ s h n. c.going.ensures.none c.in_default.is s h n)

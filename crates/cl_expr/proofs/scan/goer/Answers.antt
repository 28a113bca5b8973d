use Rattle.std.proofs.Common.{subst, sym}
use Rattle.cl_expr.specs.code.Table.{suffixes}
use Rattle.cl_tree.specs.Derives.{Has}
use Rattle.cl_expr.specs.code.Parses.{GoesWith}
use Rattle.cl_expr.proofs.Scans.{before_first, before_next, before_all, has_in}
use Rattle.cl_expr.proofs.scan.goer.Goals as goal

pub loop-start-init : goal.loop-start-init
loop-start-init c = before_first (λ x. GoesWith x c.args.kind c.args.class) c.suffixes-all.result.now

pub returns-then-fits-clause-some : goal.returns-then-fits-clause-some
returns-then-fits-clause-some c =
    (has_in c.suffixes-all.result.now (suffixes c.args.goal) c.loop-start.start-index _ c.suffixes-all.ensures c.loop-start-test.true, c.goes_on-fits.ensures.yes c.if-fits.true)

pub loop-start-preserved : goal.loop-start-preserved
loop-start-preserved c =
    before_next (λ x. GoesWith x c.args.kind c.args.class) c.suffixes-all.result.now c.loop-start.start-index _ c.loop-start.invariant (λ e. c.goes_on-fits.ensures.no c.if-fits.false e)

pub returns-clause-none : goal.returns-clause-none
returns-clause-none c = λ t s h n. before_all (λ x. GoesWith x c.args.kind c.args.class) c.suffixes-all.result.now c.loop-start.start-index c.loop-start.invariant c.loop-start-test.false s (subst (λ xs. Has xs s) (sym c.suffixes-all.ensures) h) n

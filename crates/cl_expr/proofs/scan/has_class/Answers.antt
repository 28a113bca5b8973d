use Rattle.std.proofs.Common.{◌≡◌, refl, subst}
use Rattle.cl_tree.specs.Derives.{Has}
use Rattle.cl_expr.proofs.Scans.{before_first, before_next, before_all, has_at}
use Rattle.cl_expr.proofs.scan.has_class.Goals as goal

pub loop-one-init : goal.loop-one-init
loop-one-init c = before_first (λ x. x ≡ c.args.class) c.args.list.now

pub returns-then-same-clause-yes : goal.returns-then-same-clause-yes
returns-then-same-clause-yes c =
    λ t. subst (Has c.args.list.now) (c.same_class-same.ensures.yes c.if-same.true) (has_at c.args.list.now c.loop-one.one-index _ c.loop-one-test.true)

pub loop-one-preserved : goal.loop-one-preserved
loop-one-preserved c =
    before_next (λ x. x ≡ c.args.class) c.args.list.now c.loop-one.one-index _ c.loop-one.invariant (λ e. c.same_class-same.ensures.no c.if-same.false e)

pub returns-clause-no : goal.returns-clause-no
returns-clause-no c = λ t h. before_all (λ x. x ≡ c.args.class) c.args.list.now c.loop-one.one-index c.loop-one.invariant c.loop-one-test.false c.args.class h refl

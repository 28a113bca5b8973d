use Rattle.std.proofs.Common.{refl, subst, length}
use Rattle.cl_pp.specs.declared.done.PpAnswer.TheVariants as answer
use Rattle.cl_pp.specs.declared.done.PpDone.{PpDone}
use Rattle.cl_pp.specs.Before.{before_over}
use Rattle.cl_pp.specs.Places.{InOrder, in_document, nowhere}
use Rattle.cl_pp.specs.Resuming.{GoesOn}
use Rattle.cl_pp.proofs.Found.{if_done, went_all}
use Rattle.cl_pp.proofs.Ordering.{document_order}
use Rattle.cl_pp.proofs.unit.preprocess.Goals as goal

pub returns-in-Done-clause-done : goal.returns-in-Done-clause-done
returns-in-Done-clause-done g c =
    let macros = g.B.MacroBase.macros c.args.base.now in
    let numbers = g.B.MacroBase.events c.args.base.now in
    let known = g.V.HeaderView.known c.args.view.now in
    let asked = g.V.HeaderView.asked in
    let before = before_over macros numbers c.args.start in
    let includes = c.args.config.now.includes in
    let path = c.args.path.now in
    let main = c.in_ok-main.main in
    let deps = c.in_ok-work.work.made.done.deps in
    let goes = subst (GoesOn macros numbers before known includes path main deps (asked c.args.view.now) (asked c.go_on.new.view)) c.in-Done.is (c.in_ok-done.ensures.done before path main (c.in_ok-work.ensures.waits macros numbers includes)) in
    went_all before known includes path c.args.main.now main deps (asked c.args.view.now) (asked c.go_on.new.view) c.in-Done.done (answer.Done c.in-Done.done) c.in_ok-work.ensures.asked c.in_ok-main.ensures goes

pub returns-in-Done-clause-order : goal.returns-in-Done-clause-order
unfolding returns-in-Done-clause-done
returns-in-Done-clause-order g c =
    let p = returns-in-Done-clause-done g c in
    if_done (λ (done : PpDone). InOrder nowhere (length c.args.main.now) (in_document done.tokens)) (answer.Done c.in-Done.done) p.from.done p.from.is (document_order p.from.reads refl refl)

pub returns-clause-done : goal.returns-clause-done
returns-clause-done g c =
    let macros = g.B.MacroBase.macros c.args.base.now in
    let numbers = g.B.MacroBase.events c.args.base.now in
    let known = g.V.HeaderView.known c.args.view.now in
    let asked = g.V.HeaderView.asked in
    let before = before_over macros numbers c.args.start in
    let includes = c.args.config.now.includes in
    let path = c.args.path.now in
    let main = c.in_ok-main.main in
    let deps = c.in_ok-work.work.made.done.deps in
    let goes = subst (GoesOn macros numbers before known includes path main deps (asked c.args.view.now) (asked c.go_on.new.view)) c.in-Need.is (c.in_ok-done.ensures.done before path main (c.in_ok-work.ensures.waits macros numbers includes)) in
    went_all before known includes path c.args.main.now main deps (asked c.args.view.now) (asked c.go_on.new.view) goes.done (answer.Need c.in-Need.need.path) c.in_ok-work.ensures.asked c.in_ok-main.ensures goes.went

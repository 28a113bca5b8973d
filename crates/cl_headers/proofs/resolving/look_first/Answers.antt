use Rattle.std.proofs.Common.{refl, subst}
use Rattle.cl_headers.specs.Resolving.{Answers, named}
use Rattle.cl_headers.proofs.Search.{found_answers, next_answers}
use Rattle.cl_headers.proofs.resolving.look_first.Goals as goal

pub returns-in-Some-clause-ok : goal.returns-in-Some-clause-ok
returns-in-Some-clause-ok g c =
    let known = g.V.HeaderView.known in
    let asked = g.V.HeaderView.asked in
    found_answers (known c.args.view.now) (known c.args.view.now) c.args.first.now c.args.name.now c.args.others.now c.in_ok-path.path (asked c.args.view.now) (asked c.look_at.new.view)
    c.in-Some.resolved refl c.in_ok-path.ensures (rw c.in-Some.is at c.in_ok-resolved.ensures.ok) c.in_ok-resolved.ensures.asked

pub returns-in_ok-resolved-in-None-clause-ok : goal.returns-in_ok-resolved-in-None-clause-ok
returns-in_ok-resolved-in-None-clause-ok g c =
    let known = g.V.HeaderView.known in
    let asked = g.V.HeaderView.asked in
    next_answers (known c.args.view.now) (known c.args.view.now) c.args.first.now c.args.name.now c.args.others.now c.in_ok-path.path (asked c.args.view.now) (asked c.look_at.new.view)
    (asked c.look_in.new.view) c.in_ok-resolved-in-None.resolved refl c.in_ok-path.ensures (rw c.in-None.is at c.in_ok-resolved.ensures.ok) c.in_ok-resolved.ensures.asked
    (subst (λ view. Answers view (named c.args.others.now c.args.name.now) (asked c.look_at.new.view) (asked c.look_in.new.view) c.in_ok-resolved-in-None.resolved) c.in_ok-resolved.ensures.fixed
    c.in_ok-resolved-in-None.ensures.ok)

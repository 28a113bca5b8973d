use Rattle.std.proofs.Common.{◌≡◌, ◌+◌, ◌∷◌, drop, sym, subst, arith, ◌∙◌}
use Rattle.std.proofs.lemmas.Grind.{common_steps}
use Rattle.cl_headers.specs.Resolving.{Answers, Stops, named}
use Rattle.cl_headers.proofs.Search.{found_answers, next_answers, next_stops}
use Rattle.cl_headers.proofs.resolving.look_in.Goals as goal

pub returns-in-Some-clause-ok : goal.returns-in-Some-clause-ok
returns-in-Some-clause-ok g c =
    let known = g.V.HeaderView.known in
    let asked = g.V.HeaderView.asked in
    let i = c.loop-folder.folder-index in
    let folders = c.args.folders.now in
    let next : drop i folders ≡ c.folder-item.result ∷ drop (i + 1) folders = grind (arith, common_steps) in
    c.loop-folder.invariant.answers (asked c.look_at.new.view) c.in-Some.resolved
    (subst (λ fs. Answers (known c.args.view.now) (named fs c.args.name.now) (asked c.loop-folder.view) (asked c.look_at.new.view) c.in-Some.resolved) (sym next)
    (found_answers (known c.args.view.now) (known c.loop-folder.view) c.folder-item.result c.args.name.now (drop (i + 1) folders) c.in_ok-path.path (asked c.loop-folder.view) (asked c.look_at.new.view)
    c.in-Some.resolved c.loop-folder.invariant.fixed c.in_ok-path.ensures (rw c.in-Some.is at c.in_ok-resolved.ensures.ok) c.in_ok-resolved.ensures.asked))

pub loop-folder-preserved : goal.loop-folder-preserved
loop-folder-preserved g c =
    let known = g.V.HeaderView.known in
    let asked = g.V.HeaderView.asked in
    let i = c.loop-folder.folder-index in
    let folders = c.args.folders.now in
    let next : drop i folders ≡ c.folder-item.result ∷ drop (i + 1) folders = grind (arith, common_steps) in
    record {
      fixed = c.in_ok-resolved.ensures.fixed ∙ c.loop-folder.invariant.fixed;
      answers =
          λ after resolved answers. c.loop-folder.invariant.answers after resolved
          (subst (λ fs. Answers (known c.args.view.now) (named fs c.args.name.now) (asked c.loop-folder.view) after resolved) (sym next)
          (next_answers (known c.args.view.now) (known c.loop-folder.view) c.folder-item.result c.args.name.now (drop (i + 1) folders) c.in_ok-path.path (asked c.loop-folder.view) (asked c.look_at.new.view) after
          resolved c.loop-folder.invariant.fixed c.in_ok-path.ensures (rw c.in-None.is at c.in_ok-resolved.ensures.ok) c.in_ok-resolved.ensures.asked answers));
      stops =
          λ after stops. c.loop-folder.invariant.stops after
          (subst (λ fs. Stops (known c.args.view.now) (named fs c.args.name.now) (asked c.loop-folder.view) after) (sym next)
          (next_stops (known c.args.view.now) (known c.loop-folder.view) c.folder-item.result c.args.name.now (drop (i + 1) folders) c.in_ok-path.path (asked c.loop-folder.view) (asked c.look_at.new.view) after
          c.loop-folder.invariant.fixed c.in_ok-path.ensures (rw c.in-None.is at c.in_ok-resolved.ensures.ok) c.in_ok-resolved.ensures.asked stops));
    }

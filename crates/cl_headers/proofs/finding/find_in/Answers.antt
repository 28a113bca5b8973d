use Rattle.std.proofs.Common.{ℕ, List, subst, sym, ◌∙◌}
use Rattle.cl_headers.specs.Noting.{Searches}
use Rattle.cl_headers.proofs.Noted.{found_searches, next_searches}
use Rattle.cl_headers.proofs.finding.find_in.Goals as goal

pub returns-in-Some-2-clause-ok : goal.returns-in-Some-2-clause-ok
returns-in-Some-2-clause-ok g c =
    let known = g.V.HeaderView.known in
    let asked = g.V.HeaderView.asked in
    c.loop-path.invariant.searches (asked c.look_noting.new.view) c.look_noting.new.deps c.in-Some-2.resolved
    (subst (λ (ps : List (List ℕ)). Searches (known c.args.view.now) ps c.loop-path.deps c.look_noting.new.deps (asked c.loop-path.view) (asked c.look_noting.new.view) c.in-Some-2.resolved) (sym c.in-Some.ensures.cases.0)
    (found_searches (known c.args.view.now) (known c.loop-path.view) c.in-Some.path.now c.in-Some.behind.now c.loop-path.deps c.look_noting.new.deps (asked c.loop-path.view) (asked c.look_noting.new.view)
    c.in-Some-2.resolved c.loop-path.invariant.fixed (rw c.in-Some-2.is at c.in_ok-resolved.ensures.ok) c.in_ok-resolved.ensures.asked c.in_ok-resolved.ensures.noted))

pub loop-path-preserved : goal.loop-path-preserved
loop-path-preserved g c =
    let known = g.V.HeaderView.known in
    let asked = g.V.HeaderView.asked in
    record {
      fixed = c.in_ok-resolved.ensures.fixed ∙ c.loop-path.invariant.fixed;
      searches =
          λ after news resolved s. c.loop-path.invariant.searches after news resolved
          (subst (λ (ps : List (List ℕ)). Searches (known c.args.view.now) ps c.loop-path.deps news (asked c.loop-path.view) after resolved) (sym c.in-Some.ensures.cases.0)
          (next_searches (known c.args.view.now) (known c.loop-path.view) c.in-Some.path.now c.in-Some.behind.now c.loop-path.deps c.look_noting.new.deps news (asked c.loop-path.view) (asked c.look_noting.new.view) after
          resolved c.loop-path.invariant.fixed (rw c.in_default-2.is at c.in_ok-resolved.ensures.ok) c.in_ok-resolved.ensures.asked c.in_ok-resolved.ensures.noted s));
    }

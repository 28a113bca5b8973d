use Rattle.std.proofs.Common.{ℕ, ◌<◌, ◌≤◌, subst, arith}
use Rattle.std.proofs.lemmas.Grind.{common_steps}
use Rattle.cl_pp.specs.Preprocessing.{deep}
use Rattle.cl_pp.proofs.Arriving.{reaches_by}
use Rattle.cl_pp.proofs.reach.reach.Goals as goal

pub returns-then-source-ge-MOST_DEPTH-clause-done : goal.returns-then-source-ge-MOST_DEPTH-clause-done
returns-then-source-ge-MOST_DEPTH-clause-done g c =
    let most : 200 ≤ c.args.source.now.depth = grind (arith, common_steps) in
    λ w s. rw c.in_ok-header_fault.ensures (deep w c.args.target.now c.args.made.now.done (subst (λ (n : ℕ). 200 ≤ n) s.depth most))

pub returns-clause-done : goal.returns-clause-done
returns-clause-done g c =
    let less : c.args.source.now.depth < 200 = grind (arith, common_steps) in
    λ w s. reaches_by w c.args.target.now c.args.made.now.done c.look.new.made.done c.in_ok-reached.reached (subst (λ (n : ℕ). n < 200) s.depth less) (c.in_ok-reached.ensures.done w s)

use Rattle.std.proofs.Common.{List, ◌∷◌, length, subst}
use Rattle.cl_cond.specs.declared.mark.Mark.{Mark}
use Rattle.cl_pp.specs.Places.{MarksLie}
use Rattle.cl_pp.proofs.Lying.{marks_reach}
use Rattle.cl_pp.proofs.run.runs.Goals as goal

pub goes_on-requires-clause-run : goal.goes_on-requires-clause-run
goes_on-requires-clause-run c = (c.loop-mark.invariant.1, marks_reach _ (length c.args.tokens.now) c.loop-mark.rest.now c.loop-mark.invariant.2)

pub goes_on-requires-clause-mark : goal.goes_on-requires-clause-mark
goes_on-requires-clause-mark c =
    let lie : MarksLie c.loop-mark.run.to (length c.args.tokens.now) (c.in-Some-split_first.mark.now ∷ c.in-Some-split_first.behind.now) =
    subst (λ (ms : List Mark). MarksLie c.loop-mark.run.to (length c.args.tokens.now) ms) c.in-Some-split_first.ensures.cases.0 c.loop-mark.invariant.2 in
    (lie.1, marks_reach _ (length c.args.tokens.now) c.in-Some-split_first.behind.now lie.2)

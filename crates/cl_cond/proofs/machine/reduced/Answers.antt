use Rattle.std.proofs.Common.{List, ap, ◌∙◌, sym}
use Rattle.std.specs.Prelude.{reverse}
use Rattle.cl_cond.specs.declared.machine.Frame.{Frame}
use Rattle.cl_cond.specs.code.Machine.{reduce}
use Rattle.cl_cond.proofs.Reducing.{reduce_loose, reduce_tight}
use Rattle.cl_cond.proofs.machine.reduced.Goals as goal

pub loop-frame-preserved : goal.loop-frame-preserved
loop-frame-preserved c =
    ap (reduce c.args.least (reverse c.take_tight.new.stack)) c.closed-outcome.ensures
    ∙ sym (reduce_tight c.args.least c.in-Some.frame (reverse c.take_tight.new.stack) c.loop-frame.outcome c.in-Some.ensures.1)
    ∙ ap (λ (s : List Frame). reduce c.args.least s c.loop-frame.outcome) (sym c.in-Some.ensures.0) ∙ c.loop-frame.invariant

pub returns : goal.returns
returns c =
    sym c.loop-frame.invariant ∙ reduce_loose c.args.least (reverse c.loop-frame.stack) c.loop-frame.outcome c.in_default.ensures.0
    ∙ ap (λ (s : List Frame). (reverse s, c.loop-frame.outcome)) (sym c.in_default.ensures.1)

use Rattle.std.proofs.Common.{◌∙◌, ap}
use Rattle.cl_macro.specs.Words.{painted}
use Rattle.cl_macro.specs.Pasting.{with_space}
use Rattle.cl_macro.proofs.Laying.{laid, spaced_first, spaced_last, never}
use Rattle.cl_macro.proofs.made.lay.Goals as goal
use Rattle.cl_macro.proofs.made.lay.Goals.{then-is_empty, else-is_empty}

pub loop-word-preserved : goal.loop-word-preserved
loop-word-preserved c = elim c.if-is_empty.branch [
  | then-is_empty w ↦
      laid c.args.set.now c.args.space c.loop-word.words c.pop.new.self c.in-Some.word (with_space c.args.space c.in-Some.word) c.in_ok-painted.field-0 c.loop-word.work c.push.new.self _
      c.loop-word.invariant c.in-Some.ensures.items
      (spaced_first c.args.space c.pop.new.self c.in-Some.word (c.is_empty.ensures.0 w.if-is_empty.true))
      (c.in_ok-painted.ensures ∙ ap (painted c.args.set.now) (w.word-is ∙ w.with_space-word.ensures)) c.in_ok-push.ensures
  | else-is_empty w ↦
      laid c.args.set.now c.args.space c.loop-word.words c.pop.new.self c.in-Some.word c.in-Some.word c.in_ok-painted.field-0 c.loop-word.work c.push.new.self _
      c.loop-word.invariant c.in-Some.ensures.items
      (spaced_last c.args.space c.pop.new.self c.in-Some.word (λ e. never _ (c.is_empty.ensures.1 e) w.if-is_empty.false))
      (c.in_ok-painted.ensures ∙ ap (painted c.args.set.now) w.word-is) c.in_ok-push.ensures
]

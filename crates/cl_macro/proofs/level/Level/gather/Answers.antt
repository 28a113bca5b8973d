use Rattle.cl_macro.proofs.Works.{gathered_on}
use Rattle.cl_macro.proofs.level.Level.gather.Goals as goal

pub loop-preserved : goal.loop-preserved
loop-preserved c =
    gathered_on c.args.self.now c.loop.counter c.loop.self c.next.new.self c.loop.words c.push.new.self c.in_ok-word.word
    c.loop.invariant c.in_ok-word.ensures.value c.in_ok-word.ensures.passes c.in_ok-word.ensures.out c.in_ok-push.ensures.ok

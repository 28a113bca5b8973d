use Rattle.cl_layout.proofs.Steps.{popped, popped_none, popped_stands}
use Rattle.cl_layout.proofs.work.Work.step.Goals as goal

pub returns-in-None : goal.returns-in-None
returns-in-None g c = λ sound.
    c.enter.ensures (popped_none (g.M.Members.content c.args.members.now) c.args.self.now c.pop.new.self c.pop.result c.pop.ensures.items c.in-None.is sound)

pub returns-in-Some : goal.returns-in-Some
returns-in-Some g c = λ sound.
    c.work_on.ensures
    (popped_stands (g.M.Members.content c.args.members.now) c.args.self.now c.pop.new.self c.pop.result c.in-Some.frame c.pop.ensures.items c.in-Some.is sound)
    (popped (g.M.Members.content c.args.members.now) c.args.self.now c.pop.new.self c.pop.result c.pop.ensures.items sound)

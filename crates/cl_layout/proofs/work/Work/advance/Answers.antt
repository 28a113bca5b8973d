use Rattle.cl_layout.proofs.Steps.{advanced}
use Rattle.cl_layout.proofs.work.Work.advance.Goals as goal

pub returns-clause-stands : goal.returns-clause-stands
returns-clause-stands c = λ layouts known stands all.
    advanced c.push.result layouts c.args.frame c.room_after-room.result c.args.inner c.args.self.now.frames c.push.new.self
    c.requires c.room_after-room.ensures c.push.ensures.ok known stands all

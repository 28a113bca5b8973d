use Rattle.std.proofs.Common.{refl}
use Rattle.cl_layout.proofs.Steps.{ended}
use Rattle.cl_layout.proofs.work.Work.end.Goals as goal

pub returns : goal.returns
returns c = λ content stands sound.
    ended c.put.result content c.args.self.now c.put.new.self c.args.frame (record { union = c.args.frame.union; tag = c.args.frame.tag }) c.finished.result refl refl
    c.finished.ensures c.requires c.put.ensures.found c.put.ensures.frames stands sound

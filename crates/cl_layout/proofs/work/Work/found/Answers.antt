use Rattle.cl_layout.proofs.Steps.{told_by}
use Rattle.cl_layout.proofs.work.Work.found.Goals as goal

pub returns-clause-told : goal.returns-clause-told
returns-clause-told c = λ content sound. told_by c.kept.result content c.args.self.now c.args.need c.kept.ensures sound

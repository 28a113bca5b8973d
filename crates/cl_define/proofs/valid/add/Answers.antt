use Rattle.cl_define.proofs.Distinct.{added_told}
use Rattle.cl_define.proofs.valid.add.Goals as goal

pub returns : goal.returns
returns c =
    λ names h. added_told c.args.set.now c.insert.new.self c.args.name.now c.in_ok-copy.copy names c.in_ok-added.added c.in_ok-copy.ensures c.in_ok-added.ensures.added c.in_ok-added.ensures.updates h

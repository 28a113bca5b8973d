use Rattle.cl_store.proofs.Puts.{puts_doc}
use Rattle.cl_store.proofs.docs.Docs.change.Goals as goal

pub returns-clause-done : goal.returns-clause-done
returns-clause-done c = λ _.
    let all = puts_doc c.self.inside.entries c.insert.new.self _ c.args.version _ c.ranges.version c.in_ok-insert.ensures.updates in
    rw (← c.self.view_is, ← c.in_ok-path.ensures) all

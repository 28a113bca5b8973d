use Rattle.cl_store.proofs.Puts.{puts_doc}
use Rattle.cl_store.proofs.docs.Docs.open.Goals as goal
use Rattle.cl_store.proofs.docs.Docs.open.Goals.{in-Some, in-None}

pub returns-clause-ok : goal.returns-clause-ok
returns-clause-ok c =
    let all = puts_doc c.self.inside.entries c.insert.new.self _ c.args.version _ c.ranges.version c.in_ok-insert.ensures.updates in
    rw (← c.self.view_is) (elim c.match-branch-2.branch [ in-Some w ↦ rw w.result-is all | in-None w ↦ rw w.result-is all ])

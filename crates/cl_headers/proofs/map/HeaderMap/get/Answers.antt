use Rattle.cl_headers.proofs.map.HeaderMap.get.Goals as goal

pub returns-clause-kept : goal.returns-clause-kept
returns-clause-kept c = rw (← c.self.view_is) c.self.invariant

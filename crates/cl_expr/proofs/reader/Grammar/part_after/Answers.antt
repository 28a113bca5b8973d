use Rattle.cl_expr.proofs.reader.Grammar.part_after.Goals as goal

pub returns-then-dead : goal.returns-then-dead
returns-then-dead g c = (let d = c.in_ok-dead.ensures c.if-dead.true in rw (d.before, d.symbol) c.bad_entry.ensures)

use Rattle.cl_expr.proofs.reader.Grammar.part.Goals as goal

pub returns-in-Some : goal.returns-in-Some
returns-in-Some g c = rw c.in-Some.is c.separated.ensures

pub returns-in-None : goal.returns-in-None
returns-in-None g c = rw c.in-None.is c.symbol.ensures

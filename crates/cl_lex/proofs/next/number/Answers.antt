use Rattle.std.proofs.Common.{arith}
use Rattle.cl_lex.proofs.Longest.{number_longest}
use Rattle.cl_lex.proofs.next.number.Goals as goal

pub returns-clause-item : goal.returns-clause-item
returns-clause-item c =
    let goes = c.number_end.ensures in number_longest _ _ _ (omega arith) goes.high c.requires.first goes.all goes.stops

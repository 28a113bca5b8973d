use Rattle.std.proofs.Common.{arith}
use Rattle.cl_lex.proofs.Longest.{ident_longest}
use Rattle.cl_lex.proofs.next.prefixed.Goals as goal

pub returns-clause-item : goal.returns-clause-item
returns-clause-item c =
    let goes = c.name_end.ensures in
    ident_longest _ _ _ (omega arith) goes.high c.requires.first goes.all goes.stops c.in_default.ensures.none c.in_default-str_end.ensures.none

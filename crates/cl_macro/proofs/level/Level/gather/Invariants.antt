use Rattle.cl_macro.proofs.Works.{Gathered}
use Rattle.cl_macro.proofs.level.Level.gather.Given as goal

abbrev pub invariant-loop : goal.invariant-loop
invariant-loop l = Gathered l.fn.self l.counter l.self l.words

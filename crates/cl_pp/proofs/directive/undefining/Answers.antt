use Rattle.cl_pp.proofs.directive.undefining.Goals as goal

pub returns-clause-keeps : goal.returns-clause-keeps
returns-clause-keeps c = λ macros numbers start k. let h = c.in_ok-undefined.ensures.keeps macros numbers start k in record { macros_are = h.macros_are; numbers_are = h.numbers_are; count = h.count }

use Rattle.std.proofs.Common.{arith, ap, length}
use Rattle.cl_lex.proofs.Characters.{count}
use Rattle.cl_lex.proofs.HeldFacts.{begins_plain, begins_joined, begins_within}
use Rattle.cl_lex.proofs.source.Source.begins.Goals as goal

pub overflow_cast-result : goal.overflow_cast-result
overflow_cast-result c = omega (arith, c.requires, count c.args.self.now, ap length c.self.view_is, c.self.invariant.short)

pub returns-in-None-clause-value : goal.returns-in-None-clause-value
returns-in-None-clause-value c = begins_plain _ _ _ _ c.args.at c.self.invariant c.in-None.is c.self.view_is c.requires

pub returns-in-None-clause-within : goal.returns-in-None-clause-within
returns-in-None-clause-within c = omega (arith, c.requires, count c.args.self.now)

pub returns-in-Some-clause-within : goal.returns-in-Some-clause-within
returns-in-Some-clause-within c =
    begins_within c.args.self.now c.args.at c.index.result.now c.requires
    (begins_joined _ _ _ _ c.in-Some.starts c.args.at c.index.result.now c.self.invariant c.in-Some.is c.self.view_is c.requires c.index.ensures)

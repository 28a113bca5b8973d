use Rattle.std.proofs.Common.{arith, ap, length}
use Rattle.cl_lex.proofs.Characters.{count}
use Rattle.cl_lex.proofs.HeldFacts.{ends_joined, ends_plain, ends_within}
use Rattle.cl_lex.proofs.source.Source.ends.Goals as goal

pub overflow_cast-result : goal.overflow_cast-result
overflow_cast-result c = omega (arith, c.requires.within, count c.args.self.now, ap length c.self.view_is, c.self.invariant.short)

pub returns-in-Some-clause-value : goal.returns-in-Some-clause-value
returns-in-Some-clause-value c =
    ends_joined _ _ _ _ c.in-Some.starts c.args.to c.index-last.result.now c.width_at.result c.self.invariant c.in-Some.is c.self.view_is c.requires.some c.requires.within
    c.index-last.ensures c.width_at.ensures

pub returns-in-Some-clause-within : goal.returns-in-Some-clause-within
returns-in-Some-clause-within c = ends_within c.args.self.now c.args.to _ c.requires.some c.requires.within (returns-in-Some-clause-value c)

pub overflow_add-result : goal.overflow_add-result
overflow_add-result c = omega (arith, returns-in-Some-clause-within c, ap length c.self.view_is, c.self.invariant.short)

pub returns-in-None-clause-value : goal.returns-in-None-clause-value
returns-in-None-clause-value c = ends_plain _ _ _ _ c.args.to c.self.invariant c.in-None.is c.self.view_is c.requires.some c.requires.within

pub returns-in-None-clause-within : goal.returns-in-None-clause-within
returns-in-None-clause-within c = omega (arith, c.requires.within, count c.args.self.now)

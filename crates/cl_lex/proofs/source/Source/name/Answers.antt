use Rattle.std.proofs.Common.{arith, ap, length}
use Rattle.cl_lex.proofs.Characters.{count}
use Rattle.cl_lex.proofs.source.Source.name.Goals as goal

pub overflow_cast-from : goal.overflow_cast-from
overflow_cast-from c = omega (arith, c.requires.order, c.requires.within, count c.args.self.now, ap length c.self.view_is, c.self.invariant.short)

pub overflow_cast-to : goal.overflow_cast-to
overflow_cast-to c = omega (arith, c.requires.within, count c.args.self.now, ap length c.self.view_is, c.self.invariant.short)

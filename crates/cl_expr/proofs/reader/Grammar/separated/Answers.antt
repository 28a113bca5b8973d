use Rattle.std.proofs.Common.{arith, sym, ◌∙◌}
use Rattle.cl_expr.proofs.Within.{class_within}
use Rattle.cl_expr.proofs.reader.Grammar.separated.Goals as goal

pub overflow_add-at : goal.overflow_add-at
overflow_add-at g c = (let w = class_within c.args.self.now.tokens.now c.args.scope c.args.at c.in-Some.class (sym c.class_at.ensures ∙ c.in-Some.is) in omega (arith, w, c.requires.nests.short))

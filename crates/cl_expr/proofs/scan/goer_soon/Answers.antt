use Rattle.std.proofs.Common.{sym, ◌∙◌}
use Rattle.cl_expr.proofs.Numbers.{suffix_nowhere}
use Rattle.cl_expr.proofs.scan.goer_soon.Goals as goal

pub returns-then-number-eq0-clause-none : goal.returns-then-number-eq0-clause-none
returns-then-number-eq0-clause-none c = λ t s h n. suffix_nowhere c.args.goal c.args.class (sym c.suffix_number-number.ensures ∙ c.if-number-eq0.true) s c.args.kind h n

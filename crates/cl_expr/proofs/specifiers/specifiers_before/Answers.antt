use Rattle.cl_expr.proofs.Joins.{external_joins}
use Rattle.cl_expr.proofs.specifiers.specifiers_before.Goals as goal

pub returns : goal.returns
returns c = λ e t w d. external_joins c.args.tokens.now c.args.from c.args.to ((rw c.new.ensures at c.in_ok-found.ensures) e) t w d

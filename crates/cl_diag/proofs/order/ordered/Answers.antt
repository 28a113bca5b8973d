use Rattle.std.proofs.Common.{List, subst, sym}
use Rattle.cl_base.specs.declared.token.Diag.{Diag}
use Rattle.cl_diag.specs.Order.{IsInOrder}
use Rattle.cl_diag.proofs.Taking.{in_order}
use Rattle.cl_diag.proofs.order.ordered.Goals as goal

pub returns : goal.returns
returns c = subst (λ (all : List Diag). IsInOrder c.args.diags all) (sym c.in_ok-all.ensures) (in_order c.args.diags c.in_ok-ranks.ranks c.in_ok-ranks.ensures)

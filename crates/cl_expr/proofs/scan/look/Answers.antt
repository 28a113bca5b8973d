use Rattle.std.proofs.Common.{sym, ◌∙◌}
use Rattle.cl_expr.specs.code.Table.{edges}
use Rattle.cl_expr.specs.code.Parses.{Begins}
use Rattle.cl_expr.proofs.Numbers.{edge_there, edge_nowhere, at_some, at_not_none}
use Rattle.cl_expr.proofs.scan.look.Goals as goal

pub returns-then-number-eq0-clause-none : goal.returns-then-number-eq0-clause-none
returns-then-number-eq0-clause-none c = λ t n. edge_nowhere c.args.place c.args.class (sym c.edge_number-number.ensures ∙ c.if-number-eq0.true) n

pub returns-clause-some : goal.returns-clause-some
returns-clause-some c =
    at_some (edges c.args.place) (λ e. Begins e.before e.symbol c.args.class) c.edge_number-number.result _ c.edge_number-number.ensures _ c.edge_at.ensures
    (edge_there c.args.place c.args.class (λ e. c.if-number-eq0.false (c.edge_number-number.ensures ∙ e)))

pub returns-clause-none : goal.returns-clause-none
returns-clause-none c = λ t n.
    at_not_none (edges c.args.place) (λ e. Begins e.before e.symbol c.args.class) c.edge_number-number.result _ c.edge_number-number.ensures _ c.edge_at.ensures
    (edge_there c.args.place c.args.class (λ e. c.if-number-eq0.false (c.edge_number-number.ensures ∙ e))) t

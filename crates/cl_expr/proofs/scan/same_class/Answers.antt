use Rattle.std.proofs.Common.{sym, ◌∙◌}
use denote.Enum.Bare.{same_true}
use Rattle.cl_tree.specs.contracts.class.Class.{the_type}
use Rattle.cl_expr.proofs.scan.same_class.Goals as goal

pub returns-clause-yes : goal.returns-clause-yes
returns-clause-yes c is = same_true the_type tt _ _ (sym c.eq.ensures ∙ is)

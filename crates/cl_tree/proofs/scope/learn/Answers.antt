use Rattle.std.proofs.Common.{◌∙◌, true, false}
use Rattle.cl_tree.proofs.Learning.{learned_one, learned_ok}
use Rattle.cl_tree.proofs.scope.learn.Goals as goal

pub returns-then-change : goal.returns-then-change
returns-then-change c = learned_ok c.with_name.result c.args.names _ _ c.args.change.typed true (c.in_ok-name.ensures ∙ c.text_at.ensures) c.if-change.true c.with_name.ensures

pub returns : goal.returns
returns c = learned_one c.args.names c.without_name.result _ _ c.args.change.typed false (c.in_ok-name.ensures ∙ c.text_at.ensures) c.if-change.false c.without_name.ensures

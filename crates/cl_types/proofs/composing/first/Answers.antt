use Rattle.std.proofs.Common.{sym, ◌∙◌}
use Rattle.cl_types.proofs.OwnLemmas.{first_left}
use Rattle.cl_types.proofs.composing.first.Goals as goal

pub returns : goal.returns
returns c = c.in_ok-t.ensures ∙ sym (first_left c.args.a.now c.args.b.now c.requires)

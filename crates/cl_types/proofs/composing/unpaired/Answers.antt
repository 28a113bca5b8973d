use Rattle.std.proofs.Common.{sym, ◌∙◌}
use Rattle.cl_types.proofs.OwnLemmas.{own_parameters}
use Rattle.cl_types.proofs.composing.unpaired.Goals as goal

pub returns : goal.returns
returns c = c.in_ok-t.ensures ∙ sym (own_parameters c.args.a.now)

use Rattle.std.proofs.Common.{ap, sym, ◌∙◌}
use Rattle.cl_types.specs.Compatible.{all_promoted}
use Rattle.cl_types.proofs.PromotedLemmas.{all_promoted_agrees}
use Rattle.cl_types.proofs.comparing.all_compared.Goals as goal

pub returns : goal.returns
returns c = c.all_promoted.ensures ∙ sym (ap all_promoted (all_promoted_agrees c.args.ps.now))

use Rattle.std.proofs.Common.{◌∙◌}
use Rattle.cl_rpc.proofs.MessageLemmas.{each_has_text_is}
use Rattle.cl_rpc.proofs.message_changes.each_has_text.Goals as goal

pub returns : goal.returns
returns c = c.all_have_text-each.ensures ∙ each_has_text_is c.args.changes.now

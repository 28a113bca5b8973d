use Rattle.std.proofs.Common.{◌∙◌}
use Rattle.cl_rpc.proofs.MessageLemmas.{last_text_is}
use Rattle.cl_rpc.proofs.message_changes.last_text.Goals as goal

pub returns : goal.returns
returns c = c.text_of_last-last.ensures ∙ last_text_is c.args.changes.now

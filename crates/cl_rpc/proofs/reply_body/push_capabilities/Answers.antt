use Rattle.cl_rpc.proofs.ReplyLemmas.{on, as_text, capabilities_text}
use Rattle.cl_rpc.proofs.reply_body.push_capabilities.Goals as goal

pub returns : goal.returns
returns c = as_text _ capabilities_text (on c.in_ok-push.ensures (on c.in_ok-push_count.ensures c.in_ok-push-2.ensures))

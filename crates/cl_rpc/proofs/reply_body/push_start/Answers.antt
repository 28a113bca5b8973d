use Rattle.cl_rpc.proofs.ReplyLemmas.{on}
use Rattle.cl_rpc.proofs.reply_body.push_start.Goals as goal

pub returns : goal.returns
returns c = on c.in_ok-push.ensures (on c.in_ok-push_id.ensures c.in_ok-push-2.ensures)

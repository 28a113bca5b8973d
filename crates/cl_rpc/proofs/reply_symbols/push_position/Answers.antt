use Rattle.cl_rpc.proofs.ReplyLemmas.{on, as_text, position_text}
use Rattle.cl_rpc.proofs.reply_symbols.push_position.Goals as goal

pub returns : goal.returns
returns c = as_text _ (position_text c.args.position)
    (on c.in_ok-push.ensures (on c.in_ok-push_count.ensures (on c.in_ok-push-2.ensures (on c.in_ok-push_count-2.ensures c.in_ok-push-3.ensures))))

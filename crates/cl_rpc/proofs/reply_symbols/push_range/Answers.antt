use Rattle.cl_rpc.proofs.ReplyLemmas.{on, as_text, range_text}
use Rattle.cl_rpc.proofs.reply_symbols.push_range.Goals as goal

pub returns : goal.returns
returns c = as_text _ (range_text c.args.range)
    (on c.in_ok-push.ensures (on c.in_ok-push_position.ensures (on c.in_ok-push-2.ensures (on c.in_ok-push_position-2.ensures c.in_ok-push-3.ensures))))

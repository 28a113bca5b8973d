use Rattle.cl_base.specs.declared.answer.Symbol.TheViews.{out-Symbol}
use Rattle.cl_rpc.specs.Replies.{text_data, range_data}
use Rattle.cl_rpc.proofs.ReplyLemmas.{on, as_text, own_text}
use Rattle.cl_rpc.proofs.reply_symbols.push_own.Goals as goal

pub returns : goal.returns
returns c =
    let s = out-Symbol c.args.symbol.now in
    as_text _ (own_text s.kind (text_data s.name) (range_data s.range) (range_data s.selection))
    (on c.in_ok-push.ensures (on c.in_ok-push_count.ensures (on c.in_ok-push-2.ensures (on c.in_ok-push_text.ensures (on c.in_ok-push-3.ensures
    (on c.in_ok-push_range.ensures (on c.in_ok-push-4.ensures (on c.in_ok-push_range-2.ensures c.in_ok-push-5.ensures))))))))

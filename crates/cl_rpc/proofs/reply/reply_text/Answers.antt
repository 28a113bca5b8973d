use Rattle.std.proofs.Common.{rules, string_bytes}
use Rattle.cl_rpc.proofs.ReplyLemmas.{frame_is}
use Rattle.cl_rpc.proofs.reply.reply_text.Goals as goal

pub returns : goal.returns
returns c = frame_is c.args.reply.now _ (string_bytes c.push_body.new.out) (string_bytes c.add_header.new.out) _ c.new-out.ensures.bytes c.in_ok-push_body.ensures c.in_ok-add_header.ensures (search rules)

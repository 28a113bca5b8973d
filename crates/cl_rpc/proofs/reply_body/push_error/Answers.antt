use Rattle.std.proofs.Common.{w32, SFits}
use Rattle.std.proofs.lemmas.Int.{to_z-of_z}
use Rattle.cl_rpc.specs.Replies.{id_data}
use Rattle.cl_rpc.proofs.ReplyLemmas.{on, as_text, error_text}
use Rattle.cl_rpc.proofs.reply_body.push_error.Goals as goal

pub returns : goal.returns
returns c =
    let fits : SFits w32 c.args.code = c.ranges.code in
    as_text _ (error_text (id_data c.args.id.now) c.args.code)
    (on c.in_ok-push.ensures (on (simp to_z-of_z at c.in_ok-push_code.ensures) (on c.in_ok-push-2.ensures (on (simp to_z-of_z at c.in_ok-push_message.ensures) (on c.in_ok-push-3.ensures (on c.in_ok-push_id.ensures c.in_ok-push-4.ensures))))))

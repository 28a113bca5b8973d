use Rattle.std.proofs.Common.{ap, ◌∙◌}
use Rattle.serde_json.specs.Data.{null}
use Rattle.serde_json.specs.Written.{compact_text}
use Rattle.cl_rpc.specs.Replies.{id_data, body_data, answer_data, capabilities_data}
use Rattle.cl_rpc.proofs.ReplyLemmas.{on, as_text, result_text}
use Rattle.cl_rpc.proofs.reply_body.push_body.Goals as goal

pub returns-in_ok-push-in-Capabilities : goal.returns-in_ok-push-in-Capabilities
returns-in_ok-push-in-Capabilities c = as_text _ (ap (λ o. compact_text (body_data (id_data c.args.reply.now.id) o)) c.in-Capabilities.is ∙ result_text (id_data c.args.reply.now.id) capabilities_data)
    (on c.in_ok-push_start-in-Capabilities.ensures (on c.in_ok-push_capabilities-in-Capabilities.ensures c.in_ok-push-in-Capabilities.ensures))

pub returns-in_ok-push-in-Null-2 : goal.returns-in_ok-push-in-Null-2
returns-in_ok-push-in-Null-2 c = as_text _ (ap (λ o. compact_text (body_data (id_data c.args.reply.now.id) o)) c.in-Null.is ∙ result_text (id_data c.args.reply.now.id) null)
    (on c.in_ok-push_start-in-Null.ensures (on c.in_ok-push-in-Null.ensures c.in_ok-push-in-Null-2.ensures))

pub returns-in_ok-push-in-Answer : goal.returns-in_ok-push-in-Answer
returns-in_ok-push-in-Answer c = as_text _ (ap (λ o. compact_text (body_data (id_data c.args.reply.now.id) o)) c.in-Answer.is ∙ result_text (id_data c.args.reply.now.id) (answer_data c.in-Answer.answer))
    (on c.in_ok-push_start-in-Answer.ensures (on c.in_ok-push_answer-in-Answer.ensures c.in_ok-push-in-Answer.ensures))

use Rattle.std.proofs.Common.{◌≡◌, ◌∙◌, sym, ap, Some, None, true, false}
use Rattle.serde_json.specs.View.{view}
use Rattle.cl_rpc.specs.Messages.{value_in, message_or_not, message_in}
use Rattle.cl_rpc.proofs.MessageLemmas.{value_in_valid, value_in_none}
use Rattle.cl_rpc.proofs.message.message_of.Goals as goal

pub returns-in_ok-parsed-in-Ok : goal.returns-in_ok-parsed-in-Ok
unfolding message_in
returns-in_ok-parsed-in-Ok c =
    let read = c.in-Ok.ensures.ok in
    let e : value_in c.args.body.now ≡ Some (view c.in-Ok.value) = value_in_valid c.args.body.now read.0 ∙ read.1 in
    c.in_ok-parsed-in-Ok.ensures ∙ sym (ap message_or_not e)

pub returns-else-is_memory : goal.returns-else-is_memory
unfolding message_in
returns-else-is_memory c =
    let e : value_in c.args.body.now ≡ None = value_in_none c.args.body.now (c.in-Err.ensures.err (λ m. let bad : false ≡ true = c.if-is_memory.ensures.1 m in cc)) in
    sym (ap message_or_not e)

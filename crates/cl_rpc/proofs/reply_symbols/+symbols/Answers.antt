use Rattle.std.proofs.Common.{◌≡◌, List, subst, string_bytes, rules, arith}
use Rattle.serde_json.specs.Written.{compact_text}
use Rattle.cl_base.specs.declared.answer.Symbol.{Symbol}
use Rattle.cl_rpc.specs.Replies.{Adds, symbols_data}
use Rattle.cl_rpc.proofs.ReplyLemmas.{on, as_text, with_children, without_children, one_more, list_text}
use Rattle.cl_rpc.proofs.reply_symbols.+symbols.Goals as goal

pub push_symbol-returns : goal.push_symbol-returns
push_symbol-returns t c = as_text _ (with_children c.args.symbol.now (search rules))
    (on c.in_ok-push.ensures (on c.in_ok-push-2.ensures (on c.in_ok-push_symbols.ensures (on c.in_ok-push-3.ensures c.in_ok-push_own-2.ensures))))

pub push_symbol-returns-then-is_empty : goal.push_symbol-returns-then-is_empty
push_symbol-returns-then-is_empty t c = as_text _ (without_children c.args.symbol.now (search rules)) (on c.in_ok-push.ensures c.in_ok-push_own.ensures)

pub push_symbols-loop-symbol-preserved : goal.push_symbols-loop-symbol-preserved
push_symbols-loop-symbol-preserved t c =
    one_more (string_bytes c.loop-symbol.out) (string_bytes c.push_comma.new.out) (string_bytes c.push_symbol.new.out) _ c.loop-symbol.later
    c.as_slice-symbol-items.result.now c.loop-symbol.symbol-index c.symbol-item.result (omega arith) c.symbol-item.is
    c.in_ok-push_comma.ensures c.in_ok-push_symbol.ensures c.loop-symbol.invariant

pub push_symbols-returns : goal.push_symbols-returns
push_symbols-returns t c =
    let ss : List Symbol = c.as_slice-symbol-items.result.now in
    let same : ss ≡ c.args.symbols.now = c.as_slice-symbol-items.ensures.value in
    subst (λ (v : List Symbol). Adds (string_bytes c.args.out.now) (string_bytes c.push-2.new.out) (compact_text (symbols_data v))) same
    (list_text (string_bytes c.args.out.now) (string_bytes c.push.new.out) (string_bytes c.loop-symbol.out) (string_bytes c.push-2.new.out) c.loop-symbol.later
    ss c.loop-symbol.symbol-index (omega arith) c.in_ok-push.ensures c.loop-symbol.invariant c.in_ok-push-2.ensures)

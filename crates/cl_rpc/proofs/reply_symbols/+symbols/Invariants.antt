use Rattle.std.proofs.Common.{◌≡◌, ◌++◌, false, string_bytes}
use Rattle.cl_rpc.proofs.ReplyLemmas.{left_text}
use Rattle.cl_rpc.proofs.reply_symbols.+symbols.Given as goal

abbrev pub invariant-push_symbols-loop-symbol : goal.invariant-push_symbols-loop-symbol
invariant-push_symbols-loop-symbol l =
    string_bytes l.out ++ left_text l.later l.symbol-index l.symbol-items ≡ string_bytes l.initial.out ++ left_text false 0 l.symbol-items

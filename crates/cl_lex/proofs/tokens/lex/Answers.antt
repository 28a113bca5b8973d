use Rattle.std.proofs.Common.{ℕ, List, subst}
use Rattle.cl_lex.specs.Lexing.{Lexes}
use Rattle.cl_lex.proofs.Order.{lexed_order}
use Rattle.cl_lex.proofs.tokens.lex.Goals as goal

pub returns-clause-order : goal.returns-clause-order
returns-clause-order c =
    lexed_order c.args.text.now c.in_ok-lexed.lexed (subst (λ (text : List ℕ). Lexes text c.in_ok-lexed.lexed) c.in_ok-source.ensures c.in_ok-lexed.ensures)

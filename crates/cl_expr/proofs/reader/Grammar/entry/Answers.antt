use Rattle.std.proofs.Common.{sym, ◌∙◌}
use Rattle.cl_expr.proofs.Reading.{entry_flat, entry_past, entry_brace, entry_found}
use Rattle.cl_expr.proofs.reader.Grammar.entry.Goals as goal

pub returns-then-self-eq0 : goal.returns-then-self-eq0
returns-then-self-eq0 g c = rw c.if-self-eq0.true (entry_flat c.args.self.now.tokens.now c.args.scope c.args.at)

pub returns-in_default : goal.returns-in_default
returns-in_default g c = entry_past c.args.self.now.tokens.now c.args.self.now.depth c.args.scope c.args.at (sym c.class_at.ensures ∙ c.in_default.is)

pub returns-then-brace : goal.returns-then-brace
returns-then-brace g c =
    entry_brace c.args.self.now.tokens.now c.args.self.now.depth c.args.scope c.args.at c.in-Some.class (sym c.class_at.ensures ∙ c.in-Some.is) (c.same_class-brace.ensures.yes c.if-brace.true)

pub returns-in-Some-2 : goal.returns-in-Some-2
returns-in-Some-2 g c = entry_found c.args.self.now.tokens.now c.args.self.now.depth c.args.scope c.args.at c.in-Some-2.item (rw c.in-Some-2.is at c.in_ok-item.ensures)

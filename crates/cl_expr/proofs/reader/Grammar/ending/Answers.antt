use Rattle.cl_expr.proofs.Reading.{nothing_stuck, barred_none}
use Rattle.cl_expr.proofs.Endings.{not_over, not_else}
use Rattle.cl_expr.proofs.reader.Grammar.ending.Goals as goal

pub with_else-requires-clause-token : goal.with_else-requires-clause-token
with_else-requires-clause-token g c = (c.dangles-dangling.ensures.yes c.if-dangling.true).0

pub with_else-requires-clause-bar : goal.with_else-requires-clause-bar
with_else-requires-clause-bar g c = (c.dangles-dangling.ensures.yes c.if-dangling.true).1

pub returns-then-barred : goal.returns-then-barred
returns-then-barred g c =
    let b = c.barred-barred.ensures.yes c.if-barred.true in
    let never = c.dangles-dangling.ensures.no c.if-dangling.false in
    barred_none c.args.self.now.tokens.now c.args.self.now.depth c.args.before.now c.args.inside c.args.place c.args.parts c.args.from c.args.to
    (nothing_stuck c.args.self.now.tokens.now c.args.self.now.depth c.args.inside c.args.place c.args.to (not_over c.args.self.now.tokens.now c.args.inside c.args.place c.args.to c.requires.over never)) b.0 b.1 b.2
    (not_else c.args.self.now.tokens.now c.args.inside c.args.place c.args.to never b.0 b.1 b.2)

pub node-requires-clause-stuck : goal.node-requires-clause-stuck
node-requires-clause-stuck g c =
    nothing_stuck c.args.self.now.tokens.now c.args.self.now.depth c.args.inside c.args.place c.args.to
    (not_over c.args.self.now.tokens.now c.args.inside c.args.place c.args.to c.requires.over (c.dangles-dangling.ensures.no c.if-dangling.false))

pub node-requires-clause-free : goal.node-requires-clause-free
node-requires-clause-free g c = λ k token bar. absurd (c.barred-barred.ensures.no c.if-barred.false k token bar)

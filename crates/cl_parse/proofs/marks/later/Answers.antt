use Rattle.cl_parse.proofs.Marked.{first_later}
use Rattle.cl_parse.proofs.marks.later.Goals as goal

pub returns-then-mark-to : goal.returns-then-mark-to
returns-then-mark-to c = first_later c.args.tokens.now c.args.pairs.now c.args.sign c.args.from c.args.to c.args.mark c.requires.mark c.requires.depth c.if-mark-to.true

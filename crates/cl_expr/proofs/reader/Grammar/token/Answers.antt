use Rattle.std.proofs.Common.{arith, sym, ◌∙◌}
use Rattle.cl_expr.proofs.Reading.{part_leaf}
use Rattle.cl_expr.proofs.Within.{class_within}
use Rattle.cl_expr.proofs.reader.Grammar.token.Goals as goal

pub returns : goal.returns
returns g c =
    rw (c.token_leaf.ensures, c.in_ok-after.ensures)
    (part_leaf c.args.self.now.tokens.now c.args.self.now.depth c.args.scope c.args.terminal c.args.act c.in-Some.class c.args.at (sym c.class_at.ensures ∙ c.in-Some.is) (c.taken-there.ensures.yes c.if-not-there.false) (omega arith))

pub token_leaf-requires : goal.token_leaf-requires
token_leaf-requires g c = (let w = class_within c.args.self.now.tokens.now c.args.scope c.args.at c.in-Some.class (sym c.class_at.ensures ∙ c.in-Some.is) in omega (arith, w, c.requires.nests.short))

use Rattle.std.proofs.Common.{arith, sym, ◌∙◌}
use Rattle.cl_expr.proofs.Reading.{node_unnamed, node_ended}
use Rattle.cl_expr.proofs.reader.Grammar.node.Goals as goal

pub returns-in_default : goal.returns-in_default
returns-in_default g c =
    node_unnamed c.args.self.now.tokens.now c.args.self.now.depth c.args.before.now c.args.inside c.args.place c.args.parts c.args.from c.args.to c.args.height c.requires.half c.requires.stuck (sym c.name_of.ensures ∙ c.in_default.is)

pub overflow_add-result : goal.overflow_add-result
overflow_add-result g c = omega (arith, c.requires.half.high, c.requires.nests.shallow)

pub returns : goal.returns
returns g c =
    let named = sym c.name_of.ensures ∙ c.in-Some.is in
    rw c.in_ok-after.ensures
    (node_ended c.args.self.now.tokens.now c.args.self.now.depth c.args.before.now c.args.inside c.args.place c.args.parts c.args.from c.args.to c.args.height c.requires.half c.requires.stuck
    c.in-Some.label (c.requires.some c.in-Some.label named) (named, c.requires.free))

use Rattle.std.proofs.Common.{refl}
use Rattle.cl_tree.specs.Derives.{end}
use Rattle.cl_expr.proofs.Joins.{chain_more, no_others, one_other, one_type}
use Rattle.cl_expr.proofs.reader.Grammar.specifiers.Goals as goal

pub loop-after-init : goal.loop-after-init
loop-after-init g c = no_others c.args.self.now.tokens.now c.args.high c.args.scope.now c.args.from c.in_ok-after.after c.in_ok-after.ensures

pub loop-after-preserved : goal.loop-after-preserved
loop-after-preserved g c =
    one_other c.args.self.now.tokens.now c.args.high c.args.scope.now c.args.from c.loop-after.after c.loop-after.at c.in-Some.found c.loop-after.invariant (rw c.in-Some.is at c.in_ok-found.ensures)

pub returns : goal.returns
returns g c =
    let cs = c.args.self.now.tokens.now in
    let chain = one_type cs c.args.high c.args.scope.now c.args.from c.loop-after.after c.loop-after.at (end c.in-Some-2.typed.tree) c.in-Some-2.typed c.loop-after.invariant (rw c.in-Some-2.is at c.in_ok-typed.ensures) refl in
    chain_more cs c.args.high c.args.scope.now c.args.from (end c.in-Some-2.typed.tree) c.args.to c.in-Some-2.typed.scope c.later_specifiers.result c.later_specifiers.ensures chain

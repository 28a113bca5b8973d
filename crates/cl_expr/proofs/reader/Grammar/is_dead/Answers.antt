use Rattle.std.proofs.Common.{◌≤◌, arith}
use Rattle.cl_expr.proofs.Failed.{before_dead}
use Rattle.cl_expr.proofs.reader.Grammar.is_dead.Goals as goal

pub returns : goal.returns
returns g c = λ e. (
    let deep : 2 ≤ c.args.self.now.depth = omega (arith, c.if-self-lt2.false) in
    before_dead c.args.self.now.tokens.now c.args.self.now.depth c.args.scope.now c.args.edge c.args.failed c.args.at (c.is_entry-entry.ensures c.if-not-entry.false) deep (c.in_ok-stands.ensures e)
    (c.requires.none (omega (arith, c.if-failed-at.false))))

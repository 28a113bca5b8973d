use Rattle.std.proofs.Common.{sym, ◌∙◌}
use Rattle.cl_expr.proofs.Growth.{end_within, end_grows}
use Rattle.cl_expr.proofs.Reading.{entry_closed, entry_bad}
use Rattle.cl_expr.proofs.Within.{class_within}
use Rattle.cl_expr.proofs.reader.Grammar.bad_entry.Goals as goal

pub returns-then-closes : goal.returns-then-closes
returns-then-closes g c =
    entry_closed c.args.self.now.tokens.now c.args.self.now.depth c.args.scope c.args.at c.requires.none (sym c.closes_at-closes.ensures ∙ c.if-closes.true)

pub returns : goal.returns
returns g c =
    let t = c.requires.token in
    let inside = sym c.closes_at-closes.ensures ∙ c.if-closes.false in
    let within = class_within c.args.self.now.tokens.now c.args.scope c.args.at t.0 t.1 in
    rw (c.bad_tree.ensures, c.bad_end-to.ensures)
    (entry_bad c.args.self.now.tokens.now c.args.self.now.depth c.args.scope c.args.at c.requires.none t.0 t.1 t.2 inside c.requires.some
    (end_grows c.args.self.now.tokens.now c.args.at within inside) (end_within c.args.self.now.tokens.now c.args.at))

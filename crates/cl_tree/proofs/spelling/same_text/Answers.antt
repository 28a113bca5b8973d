use Rattle.std.proofs.Common.{sym, ◌∙◌}
use Rattle.cl_tree.proofs.Firsts.{firsts_differ, lengths_differ}
use Rattle.cl_tree.proofs.spelling.same_text.Goals as goal

pub returns-then-apart : goal.returns-then-apart
returns-then-apart c =
    let it = c.differ-apart.ensures c.if-apart.true in
    firsts_differ c.args.one.now c.args.other.now it.0 it.1 (sym c.first_byte.ensures ∙ it.2) (sym c.first_byte-2.ensures ∙ it.3) it.4

pub returns-then-uneven : goal.returns-then-uneven
returns-then-uneven c = lengths_differ c.args.one.now c.args.other.now (c.uneven-uneven.ensures c.if-uneven.true)

use Rattle.std.proofs.Common.{◌≡◌, ◌+◌, arith, slice_index}
use Rattle.cl_lex.proofs.Longest.{block_longest}
use Rattle.cl_lex.proofs.next.slash.Goals as goal

pub returns-in-Some-clause-item : goal.returns-in-Some-clause-item
returns-in-Some-clause-item c =
    let ends = c.in-Some.ensures.some in
    let star : slice_index c.args.chars.now (c.args.at + 1) ≡ 42 = search (arith, c.if-stands-2.ensures) in
    block_longest _ _ _ ends.1 (omega (arith, ends.0), c.requires.first, star, ends.2, ends.3, ends.4)

use Rattle.std.proofs.Common.{◌<◌, ℕ, sym, subst, arith, length}
use Rattle.cl_parse.specs.code.Marks.{Ends}
use Rattle.cl_parse.proofs.BadEnds.{BadEnd, bad_bounds, bad_end, bad_reaches}
use Rattle.cl_parse.proofs.Read.{bad_next}
use Rattle.cl_parse.proofs.parse.bad.Goals as goal

pub moved-marks-requires-clause-some : goal.moved-marks-requires-clause-some
moved-marks-requires-clause-some c =
    let tokens = c.args.tokens.now in
    let pairs = c.args.pairs.now in
    let from = c.args.reading.at in
    let end : BadEnd tokens pairs from (length tokens) c.args.to = subst (BadEnd tokens pairs from (length tokens)) (sym c.requires.end) (bad_end tokens pairs from (length tokens)) in
    let more : from < c.args.to = (bad_bounds tokens pairs from (length tokens) c.args.to c.requires.some end).more in
    omega arith

pub moved-marks-requires-clause-depth : goal.moved-marks-requires-clause-depth
moved-marks-requires-clause-depth c =
    let tokens = c.args.tokens.now in
    let pairs = c.args.pairs.now in
    let from = c.args.reading.at in
    let end : BadEnd tokens pairs from (length tokens) c.args.to = subst (BadEnd tokens pairs from (length tokens)) (sym c.requires.end) (bad_end tokens pairs from (length tokens)) in
    subst (λ (n : ℕ). Ends pairs (length tokens) n c.args.to) (sym c.requires.reads.from) (bad_reaches tokens pairs from (length tokens) c.args.to end)

pub returns : goal.returns
returns c =
    let tokens = c.args.tokens.now in
    let pairs = c.args.pairs.now in
    let from = c.args.reading.at in
    let end : BadEnd tokens pairs from (length tokens) c.args.to = subst (BadEnd tokens pairs from (length tokens)) (sym c.requires.end) (bad_end tokens pairs from (length tokens)) in
    let bounds = bad_bounds tokens pairs from (length tokens) c.args.to c.requires.some end in
    bad_next tokens pairs c.args.reading c.moved-marks.result c.args.to c.args.dead c.requires.reads c.requires.some bounds.more c.requires.ahead c.requires.end c.requires.none c.moved-marks.ensures.from c.moved-marks.ensures.marks c.requires.dead

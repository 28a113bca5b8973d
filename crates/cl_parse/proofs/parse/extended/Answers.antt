use Rattle.std.proofs.Common.{◌≤◌, arith, length, refl}
use Rattle.cl_parse.proofs.Read.{extends}
use Rattle.cl_parse.proofs.parse.extended.Goals as goal

pub returns : goal.returns
returns c =
    let old = c.args.reading in
    let short : length old.ahead.items ≤ c.args.to = omega (arith, c.len.ensures, c.if-len-to.false) in
    extends c.args.tokens.now c.args.pairs.now old (record { names = old.names; ahead = c.in_ok-ahead.ahead; at = old.at; marks = old.marks; places = old.places }) c.args.to c.requires.reads short c.requires.within c.in_ok-ahead.ensures refl refl refl refl

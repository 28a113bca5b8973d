use Rattle.cl_parse.specs.code.Reading.{IsSettled}
use Rattle.cl_parse.proofs.Read.{ahead_named, covers_later, proper_next}
use Rattle.std.proofs.Common.{◌≤◌, List, arith, subst}
use Rattle.cl_tree.specs.declared.scope.Change.{Change}
use Rattle.cl_parse.proofs.parse.proper.Goals as goal

pub returns : goal.returns
returns c =
    proper_next c.args.tokens.now c.args.pairs.now c.args.reading c.in_ok-reading.reading c.args.parsed.tree c.args.parsed.scope c.args.to c.moved-marks.result c.requires.reads c.requires.some c.requires.within c.requires.end
    c.moved-marks.ensures.from c.moved-marks.ensures.marks c.requires.is
    (subst (λ (cs : List Change). IsSettled c.args.reading cs c.args.to c.moved-marks.result c.in_ok-reading.reading) c.changes-changes.ensures.value c.in_ok-reading.ensures)

pub settled-requires-clause-named : goal.settled-requires-clause-named
settled-requires-clause-named c = (let l : c.args.reading.at ≤ c.args.to = omega arith in ahead_named c.args.tokens.now c.args.pairs.now c.args.reading c.args.to c.requires.reads l c.requires.within)

pub settled-requires-clause-covers : goal.settled-requires-clause-covers
settled-requires-clause-covers c =
    let l : c.args.reading.at ≤ c.args.to = omega arith in
    covers_later c.args.tokens.now c.args.pairs.now c.args.reading.places c.args.reading.ahead.items c.args.reading.at c.args.to l c.requires.reads.covers

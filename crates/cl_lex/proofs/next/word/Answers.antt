use Rattle.std.proofs.Common.{◌≡◌, ◌<◌, arith, false, length, slice_index, sym, ◌∙◌}
use Rattle.cl_lex.specs.Bytes.{is_quote}
use Rattle.cl_lex.proofs.Longest.{ident_longest}
use Rattle.cl_lex.proofs.Words.{no_char, no_str}
use Rattle.cl_lex.proofs.next.word.Goals as goal

pub returns-clause-item : goal.returns-clause-item
returns-clause-item c =
    let cs = c.args.chars.now in
    let goes = c.name_end-to.ensures in
    let quote : c.name_end-to.result < length cs → is_quote (slice_index cs c.name_end-to.result) ≡ false = λ _. sym c.is_quote_at.ensures ∙ c.if-is_quote_at.false in
    ident_longest cs c.args.at c.name_end-to.result (omega arith) goes.high c.requires.first goes.all goes.stops
    (no_char cs c.args.at c.name_end-to.result goes.low c.requires.first goes.all quote)
    (no_str cs c.args.at c.name_end-to.result goes.low c.requires.first goes.all quote goes.stops)

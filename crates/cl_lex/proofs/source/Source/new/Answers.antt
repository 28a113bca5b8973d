use Rattle.cl_lex.proofs.PlainText.{plain_held}
use Rattle.cl_lex.proofs.source.Source.new.Goals as goal

pub invariant_of-result : goal.invariant_of-result
invariant_of-result c = plain_held c.args.text.now c.in_ok-chars.chars c.requires (c.is_plain.ensures.0 c.if-is_plain.true) c.in_ok-chars.ensures

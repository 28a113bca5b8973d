use Rattle.std.proofs.Common.{◌∙◌, sym}
use Rattle.cl_lex.proofs.PlainText.{plain_up_to}
use Rattle.cl_lex.proofs.source.is_plain.Goals as goal

pub loop-at-preserved : goal.loop-at-preserved
loop-at-preserved c = record {
  within = c.next_special-at.ensures.within;
  plain = plain_up_to c.args.text.now c.loop-at.at c.next_special-at.result c.loop-at.invariant.plain (sym c.is_plain_special.ensures ∙ c.if-not-is_plain_special.false)
      c.next_special-at.ensures.ordinary;
}

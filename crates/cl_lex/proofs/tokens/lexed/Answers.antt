use Rattle.std.proofs.Common.{sym}
use Rattle.cl_lex.proofs.Lexed.{reaches_end, reaches_from, reaches_start}
use Rattle.cl_lex.proofs.tokens.lexed.Goals as goal

pub loop-at-init : goal.loop-at-init
loop-at-init c = reaches_start c.args.source.now c.new.result c.new-2.result c.new.ensures c.new-2.ensures

pub loop-at-preserved : goal.loop-at-preserved
loop-at-preserved c =
    reaches_from c.args.source.now c.chars-chars.result.now c.loop-at.lexed c.add.new.lexed c.loop-at.before c.after-before.result c.loop-at.at c.next_item-item.result
    c.chars-chars.ensures.value c.loop-at.invariant c.next_item-item.ensures.from c.next_item-item.ensures.grows c.next_item-item.ensures.within
    (rw (sym c.takes_header.ensures) c.next_item-item.ensures.item)
    c.in_ok-add.ensures.tokens c.in_ok-add.ensures.faults c.after-before.ensures

pub returns : goal.returns
returns c = reaches_end c.args.source.now c.chars-chars.result.now c.loop-at.lexed c.loop-at.before c.loop-at.at c.chars-chars.ensures.value c.loop-at.invariant c.loop-at-test.false

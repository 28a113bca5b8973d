use Rattle.std.proofs.Common.{arith, length, false}
use Rattle.cl_lex.specs.declared.item.ItemKind.TheVariants as item
use Rattle.cl_lex.proofs.Unique.{same_item}
use Rattle.cl_lex.proofs.single.one_token.Goals as goal

pub returns-then-item-spelling-clause-none : goal.returns-then-item-spelling-clause-none
returns-then-item-spelling-clause-none c = λ kind wants.
    let cs = c.args.spelling.now in
    let next = c.next_item-item.result in
    let same = same_item cs false next.kind (item.Token kind) 0 next.to (length cs) c.next_item-item.ensures.item wants.3 in
    omega (arith, same.ends, c.if-item-spelling.true)

pub returns-in_default : goal.returns-in_default
returns-in_default c = record {
  some = tt;
  none = λ kind wants.
      let cs = c.args.spelling.now in
      let next = c.next_item-item.result in
      let same = same_item cs false next.kind (item.Token kind) 0 next.to (length cs) c.next_item-item.ensures.item wants.3 in
      c.in_default.not-Token kind same.kinds;
}

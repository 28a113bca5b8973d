use Rattle.std.proofs.Common.{◌∙◌, refl, sym, subst}
use Rattle.cl_parse.specs.Extents.{AtDepth}
use Rattle.cl_parse.proofs.Depths.{goes_past}
use Rattle.cl_parse.proofs.Marked.{NoSign, none_before, none_more}
use Rattle.cl_parse.proofs.marks.first.Goals as goal

pub loop-at-init : goal.loop-at-init
loop-at-init c = record { depth = (0, refl); none = none_before c.args.tokens.now c.args.pairs.now c.args.sign c.args.from }

pub loop-at-preserved : goal.loop-at-preserved
loop-at-preserved c =
    let depth = c.loop-at.invariant.depth in
    let next = sym c.past-at.ensures in
    let none = sym c.is_sign-found.ensures ∙ c.if-found.false in
    record {
      depth = subst (AtDepth c.args.pairs.now c.args.from) next (goes_past c.args.pairs.now c.args.from c.loop-at.at depth);
      none =
          subst
          (NoSign c.args.tokens.now c.args.pairs.now c.args.sign c.args.from)
          next
          (none_more c.args.tokens.now c.args.pairs.now c.args.sign c.args.from c.loop-at.at depth none c.loop-at.invariant.none);
    }

use Rattle.std.proofs.Common.{◌∙◌, ℕ, refl, sym, subst}
use Rattle.cl_parse.specs.Extents.{AtDepth, past}
use Rattle.cl_parse.proofs.Depths.{NoStop, Signs, goes_past, more_signs, more_stop, no_signs, no_stop}
use Rattle.cl_parse.proofs.extent.last.Goals as goal

pub loop-at-init : goal.loop-at-init
loop-at-init c = record {
  depth = (0, refl);
  none = no_stop c.args.tokens.now c.args.pairs.now c.args.from;
  signs = no_signs c.args.tokens.now c.args.pairs.now c.args.from;
}

pub loop-at-preserved : goal.loop-at-preserved
loop-at-preserved c =
    let depth = c.loop-at.invariant.depth in
    let signs = c.loop-at.invariant.signs in
    let next = sym c.past-at.ensures in
    let none = sym c.is_semicolon-semicolon.ensures ∙ c.if-semicolon.false in
    let bodiless = sym c.is_body-body.ensures ∙ c.if-body.false in
    let more = more_signs c.args.tokens.now c.args.pairs.now c.args.from c.loop-at.at c.loop-at.equal c.is_equal-sign.result depth (sym c.is_equal-sign.ensures) signs in
    record {
      depth = subst (AtDepth c.args.pairs.now c.args.from) next (goes_past c.args.pairs.now c.args.from c.loop-at.at depth);
      none =
          subst
          (NoStop c.args.tokens.now c.args.pairs.now c.args.from)
          next
          (more_stop c.args.tokens.now c.args.pairs.now c.args.from c.loop-at.at c.loop-at.equal depth none bodiless signs c.loop-at.invariant.none);
      signs =
          subst
          (λ (i : ℕ). Signs c.args.tokens.now c.args.pairs.now c.args.from i c.either-equal.result)
          next
          (subst (Signs c.args.tokens.now c.args.pairs.now c.args.from (past c.args.pairs.now c.loop-at.at)) (sym c.either-equal.ensures) more);
    }

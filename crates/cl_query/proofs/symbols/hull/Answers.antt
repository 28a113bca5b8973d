use Rattle.std.proofs.Common.{◌≡◌, ◌+◌, ◌∷◌, ℕ, get_or, sym, ap, ◌∙◌}
use Rattle.std.specs.Prelude.{slice_range}
use Rattle.cl_query.specs.Symbols.{greatest, least}
use Rattle.cl_query.proofs.Placing.{range_more}
use Rattle.cl_query.proofs.symbols.hull.Goals as goal

pub loop-at-preserved : goal.loop-at-preserved
loop-at-preserved c =
    let tokens = c.args.tokens.now in
    let rest = slice_range tokens (c.loop-at.at + 1) c.args.to in
    let step : slice_range tokens c.loop-at.at c.args.to ≡ get_or tokens c.loop-at.at c.index-tokens-at.result ∷ rest =
    range_more tokens c.loop-at.at c.args.to c.index-tokens-at.result c.loop-at-test.true c.if-at-to.true in
    record {
      least = ap (λ (n : ℕ). least n rest) c.lesser-least.ensures ∙ sym (ap (least c.loop-at.least) step) ∙ c.loop-at.invariant.least;
      greatest = ap (λ (n : ℕ). greatest n rest) c.greater-greatest.ensures ∙ sym (ap (greatest c.loop-at.greatest) step) ∙ c.loop-at.invariant.greatest;
    }

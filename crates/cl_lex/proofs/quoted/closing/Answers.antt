use Rattle.std.proofs.Common.{◌≡◌, ℕ, ◌-◌, ◌&&◌, ◌==◌, not, true, arith, slice_index, sym, ap, ◌∙◌, refl}
use Rattle.cl_lex.specs.Spelling.{is_escaped}
use Rattle.cl_lex.proofs.Pass.{one_more}
use Rattle.cl_lex.proofs.Quotes.{escaped_none, escaped_more}
use Rattle.cl_lex.proofs.quoted.closing.Goals as goal

pub loop-at-init : goal.loop-at-init
loop-at-init c = record {
  low = omega arith;
  escaped = escaped_none _ _;
  one_line = λ i low high. absurd (omega arith);
  first = λ i low high. absurd (omega arith);
}

pub loop-at-preserved : goal.loop-at-preserved
loop-at-preserved c =
    let cs = c.args.chars.now in
    let from = c.args.from in
    let at = c.loop-at.at in
    let kept = c.loop-at.invariant in record {
      low = omega arith;
      escaped = c.escapes-escaped.ensures ∙ sym (escaped_more cs from at kept.low ∙ ap (λ (b : _). slice_index cs at == 92 && not b) (sym kept.escaped));
      one_line = one_more (λ (i : ℕ). slice_index cs i ≡ 10 → ⊥) from at kept.one_line c.if-chars-at-ne10.true;
      first = one_more (λ (i : ℕ). slice_index cs i ≡ c.args.quote → is_escaped cs from (i - from) ≡ true) from at kept.first (λ e. sym kept.escaped ∙ c.if-closes.ensures.no refl e);
    }

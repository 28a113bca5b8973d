use Rattle.std.proofs.Common.{◌≡◌, ℕ, suc, ◌+◌, ◌-◌, arith, sym, ◌∙◌, ap, true, false}
use Rattle.std.specs.Prelude.{slice_get, nat_lt, codes}
use Rattle.std.proofs.lemmas.Bool.{lt-ltb}
use Rattle.cl_tree.specs.Brackets.{bad_from, bad_extent, partner_by, spells_at}
use Rattle.cl_tree.proofs.BadItems.{past_pair, past_token, not_less}
use Rattle.cl_tree.proofs.bracket.bad_extent.Goals.{then-at-partner+else-brace, else-at-partner}
use Rattle.cl_tree.proofs.bracket.bad_extent.Goals as goal

pub loop-used-preserved : goal.loop-used-preserved
loop-used-preserved c =
    let n = c.args.end - (c.loop-used._used + 1) in
    let one : c.args.end - c.loop-used._used ≡ suc n = omega (arith, c.loop-used-test.true) in
    let more : nat_lt c.loop-used.at c.args.end ≡ true = lt-ltb c.loop-used.at c.args.end (omega (arith, c.if-at-end.false)) in
    let found : spells_at c.args.tokens.now c.loop-used.at c.as_slice.result.now ≡ false = sym c.spells_at-semicolon.ensures ∙ c.if-semicolon.false in
    let plain : spells_at c.args.tokens.now c.loop-used.at (codes ";") ≡ false = ap (spells_at c.args.tokens.now c.loop-used.at) (sym c.as_slice.ensures) ∙ found in
    let here : bad_from c.args.tokens.now c.args.pairs.now (suc n) c.loop-used.at c.args.end ≡ bad_extent c.args.tokens.now c.args.pairs.now c.args.from c.args.end
    = ap (λ (n : ℕ). bad_from c.args.tokens.now c.args.pairs.now n c.loop-used.at c.args.end) (sym one) ∙ c.loop-used.invariant in
    let value = c.partner_at-partner.ensures.value in
    elim c.if-at-partner.branch [
      | then-at-partner+else-brace w ↦ (
          let less : nat_lt c.loop-used.at (partner_by (slice_get c.args.pairs.now c.loop-used.at)) ≡ true
          = ap (nat_lt c.loop-used.at) (sym value) ∙ lt-ltb c.loop-used.at c.partner_at-partner.result (omega (arith, w.if-at-partner.true)) in
          ap (λ (x : ℕ). bad_from c.args.tokens.now c.args.pairs.now n x c.args.end) (w.at-is ∙ ap (λ (v : ℕ). v + 1) value)
          ∙ sym (past_pair c.args.tokens.now c.args.pairs.now n c.loop-used.at c.args.end more plain less (sym w.brace_at-brace.ensures ∙ w.if-brace.false)) ∙ here)
      | else-at-partner w ↦ (
          let less : nat_lt c.loop-used.at (partner_by (slice_get c.args.pairs.now c.loop-used.at)) ≡ false
          = ap (nat_lt c.loop-used.at) (sym value) ∙ not_less c.loop-used.at c.partner_at-partner.result (omega (arith, w.if-at-partner.false)) in
          ap (λ (x : ℕ). bad_from c.args.tokens.now c.args.pairs.now n x c.args.end) w.at-is
          ∙ sym (past_token c.args.tokens.now c.args.pairs.now n c.loop-used.at c.args.end more plain less) ∙ here)
    ]

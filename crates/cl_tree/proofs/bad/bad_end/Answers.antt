use Rattle.std.proofs.Common.{◌≡◌, ℕ, suc, ◌+◌, ◌-◌, arith, sym, ◌∙◌, ap, true, false, length}
use Rattle.std.specs.Prelude.{slice_get, nat_lt, codes}
use Rattle.std.proofs.lemmas.Bool.{lt-ltb}
use Rattle.cl_tree.specs.BadItems.{bad_to, bad_end, partner_of, spelled_at}
use Rattle.cl_tree.proofs.BadItems.{not_less}
use Rattle.cl_tree.proofs.BadBlocks.{past_pair, past_token}
use Rattle.cl_tree.proofs.bad.bad_end.Goals.{then-at-partner+else-opens, else-at-partner}
use Rattle.cl_tree.proofs.bad.bad_end.Goals as goal

pub loop-used-preserved : goal.loop-used-preserved
loop-used-preserved c =
    let end = length c.args.tokens.now in
    let n = end - (c.loop-used._used + 1) in
    let one : end - c.loop-used._used ≡ suc n = omega (arith, c.loop-used-test.true) in
    let more : nat_lt c.loop-used.at end ≡ true = lt-ltb c.loop-used.at end (omega (arith, c.if-at-end.false)) in
    let found : spelled_at c.args.tokens.now c.loop-used.at c.as_slice.result.now ≡ false = sym c.spelled_at-semicolon.ensures ∙ c.if-semicolon.false in
    let plain : spelled_at c.args.tokens.now c.loop-used.at (codes ";") ≡ false = ap (spelled_at c.args.tokens.now c.loop-used.at) (sym c.as_slice.ensures) ∙ found in
    let unclosed = sym c.closes_at-closes.ensures ∙ c.if-closes.false in
    let here : bad_to c.args.tokens.now (suc n) c.loop-used.at ≡ bad_end c.args.tokens.now c.args.from
    = ap (λ (n : ℕ). bad_to c.args.tokens.now n c.loop-used.at) (sym one) ∙ c.loop-used.invariant in
    let value = c.partner_at-partner.ensures.value in
    elim c.if-at-partner.branch [
      | then-at-partner+else-opens w ↦ (
          let less : nat_lt c.loop-used.at (partner_of (slice_get c.args.tokens.now c.loop-used.at)) ≡ true
          = ap (nat_lt c.loop-used.at) (sym value) ∙ lt-ltb c.loop-used.at c.partner_at-partner.result (omega (arith, w.if-at-partner.true)) in
          ap (λ (x : ℕ). bad_to c.args.tokens.now n x) (w.at-is ∙ ap (λ (v : ℕ). v + 1) value)
          ∙ sym (past_pair c.args.tokens.now n c.loop-used.at more plain unclosed less (sym w.opens_at-opens.ensures ∙ w.if-opens.false)) ∙ here)
      | else-at-partner w ↦ (
          let less : nat_lt c.loop-used.at (partner_of (slice_get c.args.tokens.now c.loop-used.at)) ≡ false
          = ap (nat_lt c.loop-used.at) (sym value) ∙ not_less c.loop-used.at c.partner_at-partner.result (omega (arith, w.if-at-partner.false)) in
          ap (λ (x : ℕ). bad_to c.args.tokens.now n x) w.at-is
          ∙ sym (past_token c.args.tokens.now n c.loop-used.at more plain unclosed less) ∙ here)
    ]

use Rattle.std.proofs.Common.{◌≡◌, ◌<◌, ◌≤◌, ◌∙◌, ℕ, false, ⊎_elim, sym, subst, arith}
use Rattle.std.proofs.lemmas.Bool.{cases_lt}
use Rattle.cl_parse.specs.Whole.{is_alone}
use Rattle.cl_parse.proofs.whole.all_paired.Goals as goal

pub loop-at-preserved : goal.loop-at-preserved
loop-at-preserved c =
    let here = c.loop-at-test.true in
    let none = sym c.is_alone-alone.ensures ∙ c.if-alone.false in
    record {
      within = omega arith;
      before = λ i l.
          ⊎_elim
          (λ (k : i < c.loop-at.at). c.loop-at.invariant.before i k)
          (λ (k : c.loop-at.at ≤ i). (let same : c.loop-at.at ≡ i = omega arith in subst (λ (j : ℕ). is_alone c.args.tokens.now c.args.pairs.now j ≡ false) same none))
          (cases_lt i c.loop-at.at);
    }

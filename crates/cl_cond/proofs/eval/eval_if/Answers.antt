use Rattle.std.proofs.Common.{◌≡◌, Bool, Some, ap, sym, ◌∙◌, arith, get_or}
use Rattle.cl_cond.specs.declared.word.Class.{Class}
use Rattle.cl_cond.specs.code.Machine.{said, state_of, step}
use Rattle.cl_cond.specs.Words.{class_of}
use Rattle.cl_cond.proofs.Deciding.{misfit, at_end, goes_more}
use Rattle.cl_cond.proofs.eval.eval_if.Goals as goal

pub returns-then-not-fits : goal.returns-then-not-fits
returns-then-not-fits c =
    let s = state_of c.loop-at.machine in
    let new = state_of c.take.new.self in
    let class_is : class_of (get_or c.args.tokens.now c.loop-at.at c.index-tokens-at.result) ≡ c.class_of.result = ap class_of (sym c.index-tokens-at.is) ∙ sym c.class_of.ensures in
    misfit c.args.tokens.now c.loop-at.at c.index-tokens-at.result s c.loop-at-test.true c.loop-at.invariant.goes
    (ap (λ (k : Class). step s (record { place = c.loop-at.at; class = k })) class_is ∙ sym c.in_ok-fits.ensures ∙ ap (λ (b : Bool). said b new) c.if-not-fits.true)

pub loop-at-preserved : goal.loop-at-preserved
loop-at-preserved c =
    let s = state_of c.loop-at.machine in
    let new = state_of c.take.new.self in
    let class_is : class_of (get_or c.args.tokens.now c.loop-at.at c.index-tokens-at.result) ≡ c.class_of.result = ap class_of (sym c.index-tokens-at.is) ∙ sym c.class_of.ensures in
    record {
      within = omega arith;
      goes = goes_more c.args.tokens.now c.loop-at.at c.index-tokens-at.result s (Some new) c.loop-at-test.true c.loop-at.invariant.goes
          (ap (λ (k : Class). step s (record { place = c.loop-at.at; class = k })) class_is ∙ sym c.in_ok-fits.ensures ∙ ap (λ (b : Bool). said b new) c.if-not-fits.false);
    }

pub returns : goal.returns
returns c =
    at_end c.args.tokens.now c.loop-at.at (state_of c.loop-at.machine) c.finish.result c.answer_of.result c.loop-at.invariant.within c.loop-at-test.false c.loop-at.invariant.goes c.finish.ensures c.answer_of.ensures

use Rattle.std.specs.Prelude.{nat_lt}
use Rattle.std.proofs.Common.{◌<◌, ℕ, sym, subst, arith, length}
use Rattle.cl_parse.proofs.Ending.{Walked, at_start, further, one_more}
use Rattle.cl_parse.proofs.whole.last_ends.Goals as goal

pub loop-at-init : goal.loop-at-init
loop-at-init c = record { walked = at_start c.args.tokens.now c.args.pairs.now c.requires.some }

pub loop-at-preserved : goal.loop-at-preserved
loop-at-preserved c = record {
  walked =
      subst
      (λ (i : ℕ). Walked c.args.tokens.now c.args.pairs.now i (nat_lt c.last-stop.result (length c.args.tokens.now)))
      (sym c.past_stop-at.ensures)
      (one_more
      c.args.tokens.now
      c.args.pairs.now
      c.loop-at.at
      c.last-stop.result
      c.loop-at.ended
      c.loop-at.invariant.walked
      c.loop-at-test.true
      c.last-stop.ensures.within
      c.last-stop.ensures.stops
      c.last-stop.ensures.first);
}

pub loop-at-smaller : goal.loop-at-smaller
loop-at-smaller c =
    let more : c.loop-at.at < c.past_stop-at.result =
    subst
    (λ (i : ℕ). c.loop-at.at < i)
    (sym c.past_stop-at.ensures)
    (further c.args.tokens.now c.args.pairs.now c.loop-at.at c.last-stop.result c.loop-at-test.true c.last-stop.ensures.within c.last-stop.ensures.stops c.last-stop.ensures.first) in
    let here = c.loop-at-test.true in
    omega arith

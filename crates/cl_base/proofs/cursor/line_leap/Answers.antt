use Rattle.std.proofs.Common.{arith}
use Rattle.cl_base.proofs.CursorLemmas.{here_most, leap_end}
use Rattle.cl_base.proofs.StartLemmas.{next_from}
use Rattle.cl_base.proofs.cursor.line_leap.Goals as goal

pub overflow_add-position : goal.overflow_add-position
overflow_add-position c =
    let most = here_most c.args.text.now c.args.here.at c.args.here.position.line c.args.here.position.character c.requires.here in
    let next = next_from c.args.text.now c.args.here.at c.in_ok-place.place c.past_end-at.result c.in_ok-place.ensures c.past_end-at.ensures in
    omega (arith, most.0, next.after, next.within, c.requires.room)

pub returns : goal.returns
returns c = record {
  after = (next_from c.args.text.now c.args.here.at c.in_ok-place.place c.past_end-at.result c.in_ok-place.ensures c.past_end-at.ensures).after;
  before = c.if-at-to.false;
  is = leap_end c.args.text.now c.args.here.at c.args.here.position.line c.args.here.position.character c.past_end-at.result c.requires.here
      (next_from c.args.text.now c.args.here.at c.in_ok-place.place c.past_end-at.result c.in_ok-place.ensures c.past_end-at.ensures);
}

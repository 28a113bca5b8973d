use Rattle.std.proofs.Common.{◌<◌, ◌≤◌, ℕ, refl, sym, subst, length}
use Rattle.cl_parse.specs.Extents.{Extent, past_stop}
use Rattle.cl_parse.specs.code.Marks.{Ends}
use Rattle.cl_parse.proofs.Bounds.{extent_bounds}
use Rattle.cl_parse.proofs.Marked.{ends_past}
use Rattle.cl_parse.proofs.parse.extent_end.Goals as goal

pub returns : goal.returns
returns c = (
    let tokens = c.args.tokens.now in
    let pairs = c.args.pairs.now in
    let from = c.args.marks.from in
    let end = sym c.past_stop.ensures in
    let extent : Extent tokens pairs from (past_stop tokens pairs c.stop-stop.result) = record { last = c.stop-stop.result; within = c.stop-stop.ensures.within; stops = c.stop-stop.ensures.stops; first = c.stop-stop.ensures.first; end = refl } in
    let bounds = extent_bounds tokens pairs from (past_stop tokens pairs c.stop-stop.result) c.requires.some extent in
    record {
      extent = subst (Extent tokens pairs from) end extent;
      more = subst (λ (n : ℕ). from < n) end bounds.more;
      within = subst (λ (n : ℕ). n ≤ length tokens) end bounds.within;
      depth = subst (Ends pairs (length tokens) from) end (ends_past tokens pairs from c.stop-stop.result c.stop-stop.ensures.within c.stop-stop.ensures.stops);
    })

use Rattle.std.proofs.Common.{◌+◌, ◌≤◌, length, arith, sym, ◌∙◌}
use Rattle.cl_define.proofs.ReadLines.{close_within}
use Rattle.cl_define.proofs.read.closed.Goals as goal

pub split_at-requires : goal.split_at-requires
split_at-requires c = let w : c.in-Some.at + 1 ≤ length c.args.tokens.now = close_within c.args.tokens.now c.in-Some.at (sym c.close_at.ensures ∙ c.in-Some.is) in omega arith

pub split_at-requires-2 : goal.split_at-requires-2
split_at-requires-2 c =
    let w : c.in-Some.at + 1 ≤ length c.args.tokens.now = close_within c.args.tokens.now c.in-Some.at (sym c.close_at.ensures ∙ c.in-Some.is) in
    omega (arith, c.split_at.ensures.back_len)

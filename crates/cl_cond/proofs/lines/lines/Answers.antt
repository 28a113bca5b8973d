use Rattle.std.proofs.Common.{[], subst, append-nil, arith}
use Rattle.cl_cond.specs.Lines.{Lines}
use Rattle.cl_cond.proofs.lines.lines.Goals as goal

pub returns : goal.returns
returns c = subst (Lines c.args.tokens.now 0) (append-nil _) (c.loop-at.invariant.tiles [] (omega arith))

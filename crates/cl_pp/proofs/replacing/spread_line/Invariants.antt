use Rattle.std.proofs.Common.{◌≡◌, take}
use Rattle.cl_pp.specs.Lines.{spread_line}
use Rattle.cl_pp.proofs.replacing.spread_line.Given as goal

abbrev pub invariant-loop-token : goal.invariant-loop-token
invariant-loop-token l = l.tokens ≡ spread_line l.file (take l.token-index l.line)

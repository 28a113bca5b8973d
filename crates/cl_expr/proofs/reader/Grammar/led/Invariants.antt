use Rattle.std.proofs.Common.{◌-◌, length}
use Rattle.cl_expr.specs.code.Parses.{Led}
use Rattle.cl_expr.proofs.reader.Grammar.led.Given as goal

abbrev pub invariant-loop-other : goal.invariant-loop-other
invariant-loop-other g l = Led l.self.tokens.now l.high l.one l.other l.at → Led l.self.tokens.now l.high l.fn.these l.those l.from

abbrev pub decreases-loop-other : goal.decreases-loop-other
decreases-loop-other g l = length l.self.tokens.now - l.at

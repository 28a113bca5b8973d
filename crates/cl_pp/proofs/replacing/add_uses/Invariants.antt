use Rattle.std.proofs.Common.{◌≡◌, ◌++◌, map, take}
use Rattle.cl_pp.specs.Standing.{use_at}
use Rattle.cl_pp.specs.code.Keeping.{before_of}
use Rattle.cl_pp.proofs.replacing.add_uses.Given as goal

abbrev pub invariant-loop-one : goal.invariant-loop-one
invariant-loop-one l = l.uses ≡ l.fn.uses ++ map (use_at (before_of l.reach)) (take l.one-index l.more)

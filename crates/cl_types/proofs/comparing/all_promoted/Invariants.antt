use Rattle.std.proofs.Common.{◌≡◌, drop, map}
use Rattle.cl_types.specs.Compatible.{all_promoted, promoted}
use Rattle.cl_types.proofs.comparing.all_promoted.Given as goal

abbrev pub invariant-loop-p : goal.invariant-loop-p
invariant-loop-p l = all_promoted (map promoted (drop l.p-index l.ps)) ≡ all_promoted (map promoted l.ps)

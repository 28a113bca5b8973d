use Rattle.std.proofs.Common.{◌≡◌, ◌≤◌, ◌-◌, ◌^◌}
use Rattle.cl_frames.proofs.FrameLemmas.{Stands}
use Rattle.cl_frames.proofs.header.read_header.Given as goal

abbrev pub invariant-bytes : goal.invariant-bytes
invariant-bytes g l = record {
  count : g.S.Source.faults l.fn.source ≤ g.S.Source.faults l.source;
  stands : Stands l.start l.taken (g.S.Source.left l.fn.source) (g.S.Source.left l.source) l.stage;
  start : l.start ≡ l.fn.taken;
}

abbrev pub decreases-bytes : goal.decreases-bytes
decreases-bytes g l = 2 ^ 40 - l.taken

use Rattle.std.proofs.Common.{arith}
use Rattle.std.proofs.lemmas.Grind.{common_steps}
use Rattle.cl_frames.proofs.Known.{reads_into}
use Rattle.cl_frames.proofs.frame.fill.Goals as goal

pub loop-count-preserved : goal.loop-count-preserved
loop-count-preserved g c = record {
  within = grind (arith, common_steps, c.in-Bytes.ensures.bytes.0, c.read.auto.buf);
  faults = omega (arith, c.in-Bytes.ensures.cause, c.loop-count.invariant.faults);
  read = reads_into _ _ _ _ _ _ _ _ c.loop-count.invariant.within c.in-Bytes.ensures.bytes.0 c.loop-count.invariant.read c.in-Bytes.ensures.bytes.1;
}

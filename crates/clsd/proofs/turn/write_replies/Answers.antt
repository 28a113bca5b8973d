use Rattle.std.proofs.Common.{◌≡◌, ◌+◌, ◌++◌, take, drop, arith}
use Rattle.std.specs.Io.KnownBytes.{append_known}
use Rattle.cl_core.specs.Standing.{frames_of}
use Rattle.clsd.specs.Serving.{frame_of}
use Rattle.clsd.proofs.Frames.{frame_here, written_on, written_part}
use Rattle.clsd.proofs.turn.write_replies.Goals as goal

pub returns-in_err-write_reply-clause-part : goal.returns-in_err-write_reply-clause-part
returns-in_err-write_reply-clause-part g c =
    let so_far = c.loop-effect.invariant.written in
    let piece = frame_of c.effect-item.result in
    let more = frames_of (drop (c.loop-effect.effect-index + 1) c.args.effects.now) in
    let n = c.write_reply.ensures.part.0 in
    let here = frame_here c.args.effects.now c.loop-effect.effect-index c.effect-item.result c.loop-effect-test.true c.effect-item.is in
    let both = written_part _ _ _ _ so_far.0 piece _ more n so_far.1 here so_far.2 c.write_reply.ensures.part.1 in
    (so_far.0 ++ take n piece, drop n piece ++ more, both.0, both.1)

pub returns-then-not-branch-clause-part : goal.returns-then-not-branch-clause-part
returns-then-not-branch-clause-part g c =
    let so_far = c.loop-effect.invariant.written in
    let piece = frame_of c.effect-item.result in
    let more = frames_of (drop (c.loop-effect.effect-index + 1) c.args.effects.now) in
    let n = c.write_reply.ensures.part.0 in
    let here = frame_here c.args.effects.now c.loop-effect.effect-index c.effect-item.result c.loop-effect-test.true c.effect-item.is in
    let both = written_part _ _ _ _ so_far.0 piece _ more n so_far.1 here so_far.2 c.write_reply.ensures.part.1 in
    (so_far.0 ++ take n piece, drop n piece ++ more, both.0, both.1)

pub loop-effect-preserved : goal.loop-effect-preserved
loop-effect-preserved g c =
    let so_far = c.loop-effect.invariant.written in
    let piece = frame_of c.effect-item.result in
    let more = frames_of (drop (c.loop-effect.effect-index + 1) c.args.effects.now) in
    let here = frame_here c.args.effects.now c.loop-effect.effect-index c.effect-item.result c.loop-effect-test.true c.effect-item.is in
    let wrote : g.K.Sink.held c.write_reply.new.sink ≡ append_known (g.K.Sink.held c.loop-effect.sink) piece = c.in_ok-write_reply.ensures.whole c.if-not-branch.false in
    let both = written_on _ _ _ _ so_far.0 piece _ more so_far.1 here so_far.2 wrote in
    record {
      count = omega (arith, c.write_reply.ensures.cause, c.loop-effect.invariant.count);
      written = (so_far.0 ++ piece, both.0, both.1);
    }

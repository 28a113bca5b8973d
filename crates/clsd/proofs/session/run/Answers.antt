use Rattle.std.proofs.Common.{◌≡◌, ◌++◌, refl, arith}
use Rattle.clsd.proofs.Going.{exit_turn, sink_turn, memory_turn, at_the_edge, at_a_bad, at_a_fault, at_the_limit, for_memory, given_keeps, keeps_now, starts, goes_turn, idle_turn, unseen}
use Rattle.clsd.specs.Sessions.{given_of}
use Rattle.clsd.proofs.session.run.Goals as goal

pub loop-count-init : goal.loop-count-init
loop-count-init g c = record {
  last = c.requires.last;
  room = let none = c.requires.taken in omega arith;
  grows = let none = c.requires.taken in omega arith;
  idle = c.requires.idle;
  source = let same : g.S.Source.faults c.args.source.now ≡ g.S.Source.faults c.args.source.now = refl in omega arith;
  sink = let same : g.K.Sink.faults c.args.sink.now ≡ g.K.Sink.faults c.args.sink.now = refl in omega arith;
  headers = let same : g.H.HeaderSource.faults c.args.headers.now ≡ g.H.HeaderSource.faults c.args.headers.now = refl in omega arith;
  goes = λ config bytes stands told empty. starts config bytes _ _ _ _ _ _ c.requires.taken told empty stands c.requires.journal c.requires.idle;
}

pub returns-in-Ok-Ends-clause-session : goal.returns-in-Ok-Ends-clause-session
returns-in-Ok-Ends-clause-session g c config bytes stands told empty =
    let goes = c.loop-count.invariant.goes config bytes stands told empty in
    let read = c.in-Body.ensures.reads goes.behind c.loop-count.invariant.last goes.left_is in
    exit_turn config bytes _ _ _ _ _ _ _ _ _ _ _ _ _ _ _ goes c.loop-count.invariant.room read _ _ c.in-Ok-Ends.field-0-is c.in-Ok-Ends.ensures.turn

pub returns-in-Ok-SinkFailed-clause-session : goal.returns-in-Ok-SinkFailed-clause-session
returns-in-Ok-SinkFailed-clause-session g c config bytes stands told empty =
    let goes = c.loop-count.invariant.goes config bytes stands told empty in
    let read = c.in-Body.ensures.reads goes.behind c.loop-count.invariant.last goes.left_is in
    sink_turn config bytes _ _ _ _ _ _ _ _ _ _ _ _ _ _ _ goes c.loop-count.invariant.room read _ c.in-Ok-SinkFailed.field-0-is c.in-Ok-SinkFailed.ensures.turn

pub returns-in-Err-clause-session : goal.returns-in-Err-clause-session
returns-in-Err-clause-session g c config bytes stands told empty =
    let goes = c.loop-count.invariant.goes config bytes stands told empty in
    let read = c.in-Body.ensures.reads goes.behind c.loop-count.invariant.last goes.left_is in
    memory_turn config bytes _ _ _ _ _ _ _ _ _ _ _ _ _ _ _ goes c.loop-count.invariant.room read _ c.in-Err.ensures.turn

pub returns-in-End-clause-session : goal.returns-in-End-clause-session
returns-in-End-clause-session g c config bytes stands told empty =
    let goes = c.loop-count.invariant.goes config bytes stands told empty in
    let read = c.in-End.ensures.reads goes.behind c.loop-count.invariant.last goes.left_is in
    rw c.ended_with.ensures (at_the_edge config bytes _ _ _ _ _ _ _ _ _ _ goes c.loop-count.invariant.room c.end.new.core c.end.result read
    (c.end.ensures.turn (given_of config goes.bodies goes.reads) goes.now (given_keeps goes)))

pub returns-in-Bad-clause-session : goal.returns-in-Bad-clause-session
returns-in-Bad-clause-session g c config bytes stands told empty =
    let goes = c.loop-count.invariant.goes config bytes stands told empty in
    let read = c.in-Bad.ensures.reads goes.behind c.loop-count.invariant.last goes.left_is in
    rw c.ended_with-in-Bad.ensures (at_a_bad config bytes _ _ _ _ _ _ _ _ _ _ goes c.loop-count.invariant.room c.end-in-Bad.new.core c.end-in-Bad.result c.in-Bad.offset read
    (c.end-in-Bad.ensures.turn (given_of config goes.bodies goes.reads) goes.now (given_keeps goes)))

pub returns-in-Failed-clause-session : goal.returns-in-Failed-clause-session
returns-in-Failed-clause-session g c config bytes stands told empty =
    let goes = c.loop-count.invariant.goes config bytes stands told empty in
    let read = c.in-Failed.ensures.reads goes.behind c.loop-count.invariant.last goes.left_is in
    rw c.ended_with-in-Failed.ensures (at_a_fault config bytes _ _ _ _ _ _ _ _ _ _ goes c.loop-count.invariant.room c.end-in-Failed.new.core c.end-in-Failed.result read
    (c.end-in-Failed.ensures.turn (given_of config goes.bodies goes.reads) goes.now (given_keeps goes)))

pub returns-in-Long-clause-session : goal.returns-in-Long-clause-session
returns-in-Long-clause-session g c config bytes stands told empty =
    let goes = c.loop-count.invariant.goes config bytes stands told empty in
    let read = c.in-Long.ensures.reads goes.behind c.loop-count.invariant.last goes.left_is in
    rw c.ended_with-in-Long.ensures (at_the_limit config bytes _ _ _ _ _ _ _ _ _ _ goes c.loop-count.invariant.room c.end-in-Long.new.core c.end-in-Long.result read
    (c.end-in-Long.ensures.turn (given_of config goes.bodies goes.reads) goes.now (given_keeps goes)))

pub returns-in-Memory-clause-session : goal.returns-in-Memory-clause-session
returns-in-Memory-clause-session g c config bytes stands told empty =
    let goes = c.loop-count.invariant.goes config bytes stands told empty in
    let read = c.in-Memory.ensures.reads goes.behind c.loop-count.invariant.last goes.left_is in
    let more = unseen config bytes _ _ _ _ _ _ _ _ _ _ goes c.loop-count.invariant.room read in
    rw c.ended_with-in-Memory.ensures (for_memory config bytes _ _ _ _ _ _ _ _ _ _ goes c.loop-count.invariant.room c.end-in-Memory.new.core c.end-in-Memory.result read
    (c.end-in-Memory.ensures.turn (given_of config (goes.bodies ++ more) goes.reads) goes.now (keeps_now goes more)))

pub loop-count-preserved : goal.loop-count-preserved
loop-count-preserved g c = record {
  last = c.in-Body.ensures.last c.loop-count.invariant.last;
  room = (c.in-Body.ensures.goes_on c.loop-count.invariant.last refl).1;
  grows = let before = c.loop-count.invariant.grows in let more = (c.in-Body.ensures.goes_on c.loop-count.invariant.last refl).0 in omega arith;
  idle = idle_turn _ _ c.in-Ok-GoesOn.field-0-is (c.in-Ok-GoesOn.ensures.idle c.loop-count.invariant.idle);
  source = let before = c.loop-count.invariant.source in let more = c.in-Body.ensures.cause.later in omega arith;
  sink = let before = c.loop-count.invariant.sink in let more = c.in-Ok-GoesOn.ensures.cause.later in omega arith;
  headers = let before = c.loop-count.invariant.headers in let more = c.in-Ok-GoesOn.ensures.turn.1.cause.later in omega arith;
  goes = λ config bytes stands told empty.
      let goes = c.loop-count.invariant.goes config bytes stands told empty in
      let read = c.in-Body.ensures.reads goes.behind c.loop-count.invariant.last goes.left_is in
      goes_turn config bytes _ _ _ _ _ _ _ _ _ _ _ _ _ _ _ goes c.loop-count.invariant.room read _ c.in-Ok-GoesOn.field-0-is c.in-Ok-GoesOn.ensures.turn;
}

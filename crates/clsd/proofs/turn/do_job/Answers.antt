use Rattle.std.proofs.Common.{◌≡◌}
use Rattle.std.specs.Io.KnownBytes.{append_known}
use Rattle.cl_core.specs.Standing.{frames_of}
use Rattle.clsd.proofs.Reading.{made_as}
use Rattle.clsd.proofs.Served.{all_written, cut, end_stands, end_turns, ends_idle, of_works, part_written, some_of, then_ended}
use Rattle.clsd.proofs.turn.do_job.Goals as goal

pub returns-in-Err-clause-turn : goal.returns-in-Err-clause-turn
returns-in-Err-clause-turn g c =
    made_as _ _ _ _ _ _ _ c.in-Err.ensures.reads (λ given made leaves held works told. let off = leaves held works in ((held, told, off.0), off.1))

pub returns-in-Err-step-clause-turn : goal.returns-in-Err-step-clause-turn
returns-in-Err-step-clause-turn g c =
    made_as _ _ _ _ _ _ _ c.in-Ok.ensures.reads (λ given made leaves held works told.
    let worked = leaves held works in
    rw c.in-Err-step.ensures.err ((held, told, cut given c.work.new.core held (of_works given c.work.new.core worked.0.0 held worked.0.2)), some_of c.args.core.now c.work.new.core made worked.1))

pub returns-in-Ok-false-clause-turn : goal.returns-in-Ok-false-clause-turn
returns-in-Ok-false-clause-turn g c =
    made_as _ _ _ _ _ _ _ c.in-Ok.ensures.reads (λ given made leaves held works told.
    let worked = leaves held works in
    let now = end_stands given c.work.new.core c.step.new.self worked.0.0 c.in-Ok.event c.in-Ok-step.effects held worked.0.1 worked.0.2 c.in-Ok-step.ensures.stands c.in-Ok-step.ensures.writes c.in-Ok-step.ensures.settles in
    let ends = end_turns c.work.new.core c.step.new.self worked.0.0 c.in-Ok.event c.in-Ok-step.effects worked.0.1 c.in-Ok-step.ensures.turns worked.0.2.works in
    let took = then_ended c.args.core.now c.work.new.core c.step.new.self made worked.1 ends.0 ends.1 in
    let part = c.write_replies.ensures.part in
    (part_written given c.step.new.self held _ part.0 part.1 _ _ now told (rw c.as_slice.ensures.value at part.2) part.3, some_of c.args.core.now c.step.new.self made took))

pub returns-clause-turn : goal.returns-clause-turn
returns-clause-turn g c =
    made_as _ _ _ _ _ _ _ c.in-Ok.ensures.reads (λ given made leaves held works told.
    let worked = leaves held works in
    let now = end_stands given c.work.new.core c.step.new.self worked.0.0 c.in-Ok.event c.in-Ok-step.effects held worked.0.1 worked.0.2 c.in-Ok-step.ensures.stands c.in-Ok-step.ensures.writes c.in-Ok-step.ensures.settles in
    let ends = end_turns c.work.new.core c.step.new.self worked.0.0 c.in-Ok.event c.in-Ok-step.effects worked.0.1 c.in-Ok-step.ensures.turns worked.0.2.works in
    let took = then_ended c.args.core.now c.work.new.core c.step.new.self made worked.1 ends.0 ends.1 in
    let part = c.write_replies.ensures.part in
    (part_written given c.step.new.self held _ part.0 part.1 _ _ now told (rw c.as_slice.ensures.value at part.2) part.3, some_of c.args.core.now c.step.new.self made took))

pub returns-in-Ok-true-clause-turn : goal.returns-in-Ok-true-clause-turn
returns-in-Ok-true-clause-turn g c =
    made_as _ _ _ _ _ _ _ c.in-Ok.ensures.reads (λ given made leaves held works told.
    let worked = leaves held works in
    let now = end_stands given c.work.new.core c.step.new.self worked.0.0 c.in-Ok.event c.in-Ok-step.effects held worked.0.1 worked.0.2 c.in-Ok-step.ensures.stands c.in-Ok-step.ensures.writes c.in-Ok-step.ensures.settles in
    let ends = end_turns c.work.new.core c.step.new.self worked.0.0 c.in-Ok.event c.in-Ok-step.effects worked.0.1 c.in-Ok-step.ensures.turns worked.0.2.works in
    let took = then_ended c.args.core.now c.work.new.core c.step.new.self made worked.1 ends.0 ends.1 in
    let slice = c.as_slice.ensures.value in
    let all = c.in-Ok-true.ensures.whole c.in-Ok-true.field-0-test in
    let wrote : g.K.Sink.held c.write_replies.new.sink ≡ append_known (g.K.Sink.held c.args.sink.now) (frames_of c.in-Ok-step.effects) = cc in
    (ends_idle given c.work.new.core c.step.new.self _ _ c.in-Ok-step.effects now (all_written held (frames_of c.in-Ok-step.effects) _ _ told wrote) ends.2, took))

use Rattle.std.proofs.Common.{◌≡◌, ◌++◌, refl, arith}
use Rattle.std.specs.Prelude.{None, Some}
use Rattle.std.specs.Io.KnownBytes.{append_known}
use Rattle.cl_core.specs.Standing.{frames_of, jobs_of}
use Rattle.clsd.specs.First.{first_of}
use Rattle.clsd.proofs.Reading.{made_later, made_none}
use Rattle.clsd.proofs.Served.{all_written, cut_off, job_turn, message_leaves, no_job, of_keeps, part_written, starts_job}
use Rattle.clsd.proofs.turn.take_message.Goals as goal

pub returns-in-Err-clause-turn : goal.returns-in-Err-clause-turn
returns-in-Err-clause-turn g c =
    made_none _ _ _ _ _ _ refl (omega arith) (λ given held look keeps told.
    rw c.in-Err.ensures.err (cut_off given _ held _ (of_keeps given _ held keeps) told, omega arith, omega arith))

pub returns-in-Ok-false-clause-turn : goal.returns-in-Ok-false-clause-turn
returns-in-Ok-false-clause-turn g c =
    made_none _ _ _ _ _ _ refl (omega arith) (λ given held look keeps told.
    let now = message_leaves given _ _ c.args.parsed c.in-Ok.effects held look keeps c.in-Ok.ensures.stands c.in-Ok.ensures.writes c.in-Ok.ensures.settles in
    let part = c.write_replies.ensures.part in
    let turns = c.in-Ok.ensures.turns keeps.idle in
    (part_written given _ held _ part.0 part.1 _ _ now told (rw c.as_slice.ensures.value at part.2) part.3, omega (arith, turns.0), omega (arith, turns.1)))

pub returns-in-Err-write_replies-clause-turn : goal.returns-in-Err-write_replies-clause-turn
returns-in-Err-write_replies-clause-turn g c =
    made_none _ _ _ _ _ _ refl (omega arith) (λ given held look keeps told.
    let now = message_leaves given _ _ c.args.parsed c.in-Ok.effects held look keeps c.in-Ok.ensures.stands c.in-Ok.ensures.writes c.in-Ok.ensures.settles in
    let part = c.write_replies.ensures.part in
    let turns = c.in-Ok.ensures.turns keeps.idle in
    (part_written given _ held _ part.0 part.1 _ _ now told (rw c.as_slice.ensures.value at part.2) part.3, omega (arith, turns.0), omega (arith, turns.1)))

pub returns-in-Ok-Some-clause-turn : goal.returns-in-Ok-Some-clause-turn
returns-in-Ok-Some-clause-turn g c =
    made_later _ _ _ _ _ _ _ _ c.do_job.ensures.turn (λ given made later held look keeps told.
    let now = message_leaves given _ _ c.args.parsed c.in-Ok.effects held look keeps c.in-Ok.ensures.stands c.in-Ok.ensures.writes c.in-Ok.ensures.settles in
    let turns = c.in-Ok.ensures.turns keeps.idle in
    let slice = c.as_slice.ensures.value in
    let all = c.in-Ok-true.ensures.whole c.in-Ok-true.field-0-test in
    let wrote : g.K.Sink.held c.write_replies.new.sink ≡ append_known (g.K.Sink.held c.args.sink.now) (frames_of c.in-Ok.effects) = cc in
    let slice_2 = c.as_slice-2.ensures.value in
    let found = c.in-Ok-Some.ensures in
    let is = c.in-Ok-Some.field-0-is in
    let first : Some c.in-Ok-Some.job ≡ first_of (jobs_of c.in-Ok.effects) = cc in
    let starts = starts_job c.args.core.now c.step.new.self c.args.parsed c.in-Ok.effects c.in-Ok-Some.job turns.2 first in
    job_turn given c.args.core.now c.step.new.self _ c.args.parsed made _ _ turns.0 turns.1 starts.0
    (later turns.1 (held ++ frames_of c.in-Ok.effects) (record { stands = now.stands; writes = now.writes; settled = now.settled; works = starts.1 }) (all_written held (frames_of c.in-Ok.effects) _ _ told wrote)))

pub returns-in-Ok-None-clause-turn : goal.returns-in-Ok-None-clause-turn
returns-in-Ok-None-clause-turn g c =
    made_none _ _ _ _ _ _ refl (omega arith) (λ given held look keeps told.
    let now = message_leaves given _ _ c.args.parsed c.in-Ok.effects held look keeps c.in-Ok.ensures.stands c.in-Ok.ensures.writes c.in-Ok.ensures.settles in
    let turns = c.in-Ok.ensures.turns keeps.idle in
    let slice = c.as_slice.ensures.value in
    let all = c.in-Ok-true.ensures.whole c.in-Ok-true.field-0-test in
    let wrote : g.K.Sink.held c.write_replies.new.sink ≡ append_known (g.K.Sink.held c.args.sink.now) (frames_of c.in-Ok.effects) = cc in
    let slice_2 = c.as_slice-2.ensures.value in
    let found = c.in-Ok-None.ensures in
    let is = c.in-Ok-None.field-0-is in
    let first : None ≡ first_of (jobs_of c.in-Ok.effects) = cc in
    let finish = c.finish_of.ensures in
    let last = c.as_slice-in-Ok-None.ensures.value in
    let turn = c.turn_of.ensures in
    rw turn (rw finish (rw last
    (no_job given c.args.core.now c.step.new.self c.args.parsed c.in-Ok.effects _ _ turns.2 first turns.0 turns.1 now (all_written held (frames_of c.in-Ok.effects) _ _ told wrote)))))

pub returns-in-Ok-Some-clause-idle : goal.returns-in-Ok-Some-clause-idle
returns-in-Ok-Some-clause-idle g c idle =
    let slice_2 = c.as_slice-2.ensures.value in
    let found = c.in-Ok-Some.ensures in
    let is = c.in-Ok-Some.field-0-is in
    let first : Some c.in-Ok-Some.job ≡ first_of (jobs_of c.in-Ok.effects) = cc in
    c.do_job.ensures.idle (starts_job c.args.core.now c.step.new.self c.args.parsed c.in-Ok.effects c.in-Ok-Some.job (c.in-Ok.ensures.turns idle).2 first).1

pub returns-clause-turn : goal.returns-clause-turn
returns-clause-turn g c =
    made_none _ _ _ _ _ _ refl (omega arith) (λ given held look keeps told.
    let now = message_leaves given _ _ c.args.parsed c.in-Ok.effects held look keeps c.in-Ok.ensures.stands c.in-Ok.ensures.writes c.in-Ok.ensures.settles in
    let turns = c.in-Ok.ensures.turns keeps.idle in
    let slice = c.as_slice.ensures.value in
    let all = c.in-Ok-true.ensures.whole c.in-Ok-true.field-0-test in
    let wrote : g.K.Sink.held c.write_replies.new.sink ≡ append_known (g.K.Sink.held c.args.sink.now) (frames_of c.in-Ok.effects) = cc in
    (cut_off given c.step.new.self _ _ now (all_written held (frames_of c.in-Ok.effects) _ _ told wrote), omega (arith, turns.0), omega (arith, turns.1)))

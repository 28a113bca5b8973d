use Rattle.std.proofs.Common.{◌≡◌, [], ◌∷◌, refl, ap}
use Rattle.std.specs.Prelude.{Some, Ok}
use Rattle.cl_core.specs.Standing.{jobs_of}
use Rattle.clsd.specs.First.{first_of}
use Rattle.clsd.proofs.Reading.{made_none, made_one}
use Rattle.clsd.proofs.Served.{again, cut_after, cut_unchanged, of_awaits, read_stands, took_read, works_after}
use Rattle.clsd.proofs.work.load.Goals as goal

pub returns-in-Err-clause-reads : goal.returns-in-Err-clause-reads
returns-in-Err-clause-reads g c =
    made_none _ _ _ _ _ _ c.in-Err.ensures.err c.in-Err.ensures.cause.later (λ given held awaits. cut_unchanged given _ _ [] held refl (of_awaits given _ _ held awaits))

pub returns-in-Err-step-clause-reads : goal.returns-in-Err-step-clause-reads
returns-in-Err-step-clause-reads g c =
    made_one _ _ _ _ _ _ c.args.path c.in-Ok.read c.in-Ok.ensures.read c.in-Ok.ensures.cause.later (λ failed. c.in-Ok.ensures.cause.rose (ap Ok failed))
    (λ given look held awaits. cut_unchanged given c.args.core.now c.step.new.self ((c.args.path, c.in-Ok.read) ∷ []) held c.in-Err-step.ensures.err (of_awaits given _ _ held awaits))

pub returns-clause-reads : goal.returns-clause-reads
returns-clause-reads g c =
    made_one _ _ _ _ _ _ c.args.path c.in-Ok.read c.in-Ok.ensures.read c.in-Ok.ensures.cause.later (λ failed. c.in-Ok.ensures.cause.rose (ap Ok failed))
    (λ given look held awaits.
    let now = read_stands given c.args.core.now c.step.new.self c.args.path c.in-Ok.read c.in-Ok-step.effects held (of_awaits given _ _ held awaits) look c.in-Ok-step.ensures.ok c.in-Ok-step.ensures.stands c.in-Ok-step.ensures.writes c.in-Ok-step.ensures.settles in
    let turns = c.in-Ok-step.ensures.turns awaits.awaits in
    let took = took_read c.args.core.now c.step.new.self (c.args.path, c.in-Ok.read) turns.0 turns.1 in
    cut_after given c.args.core.now c.step.new.self ((c.args.path, c.in-Ok.read) ∷ []) held took now)

pub returns-in-Ok-None-clause-reads : goal.returns-in-Ok-None-clause-reads
returns-in-Ok-None-clause-reads g c =
    made_one _ _ _ _ _ _ c.args.path c.in-Ok.read c.in-Ok.ensures.read c.in-Ok.ensures.cause.later (λ failed. c.in-Ok.ensures.cause.rose (ap Ok failed))
    (λ given look held awaits.
    let now = read_stands given c.args.core.now c.step.new.self c.args.path c.in-Ok.read c.in-Ok-step.effects held (of_awaits given _ _ held awaits) look c.in-Ok-step.ensures.ok c.in-Ok-step.ensures.stands c.in-Ok-step.ensures.writes c.in-Ok-step.ensures.settles in
    let turns = c.in-Ok-step.ensures.turns awaits.awaits in
    let took = took_read c.args.core.now c.step.new.self (c.args.path, c.in-Ok.read) turns.0 turns.1 in
    cut_after given c.args.core.now c.step.new.self ((c.args.path, c.in-Ok.read) ∷ []) held took now)

pub returns-in-Ok-Some-clause-reads : goal.returns-in-Ok-Some-clause-reads
returns-in-Ok-Some-clause-reads g c =
    made_one _ _ _ _ _ _ c.args.path c.in-Ok.read c.in-Ok.ensures.read c.in-Ok.ensures.cause.later (λ failed. c.in-Ok.ensures.cause.rose (ap Ok failed))
    (λ given look held awaits.
    let now = read_stands given c.args.core.now c.step.new.self c.args.path c.in-Ok.read c.in-Ok-step.effects held (of_awaits given _ _ held awaits) look c.in-Ok-step.ensures.ok c.in-Ok-step.ensures.stands c.in-Ok-step.ensures.writes c.in-Ok-step.ensures.settles in
    let turns = c.in-Ok-step.ensures.turns awaits.awaits in
    let took = took_read c.args.core.now c.step.new.self (c.args.path, c.in-Ok.read) turns.0 turns.1 in
    let slice = c.as_slice.ensures.value in
    let found = c.in-Ok-Some.ensures in
    let is = c.in-Ok-Some.field-0-is in
    let first : Some c.in-Ok-Some.job ≡ first_of (jobs_of c.in-Ok-step.effects) = cc in
    works_after given c.args.core.now c.step.new.self c.in-Ok-Some.job ((c.args.path, c.in-Ok.read) ∷ []) held took now (again c.step.new.self c.in-Ok-step.effects c.in-Ok-Some.job turns.2 first))

use Rattle.std.proofs.Common.{◌≡◌, [], refl, arith}
use Rattle.std.specs.Prelude.{Some}
use Rattle.cl_core.specs.Standing.{jobs_of, loads_of}
use Rattle.clsd.specs.First.{first_of}
use Rattle.clsd.proofs.Reading.{made_later, made_none}
use Rattle.clsd.proofs.Served.{again_or_read, awaits_after, cut_after, cut_unchanged, need_stands, of_works, reads_path, then_read, took_need, works_after}
use Rattle.clsd.proofs.work.read_first.Goals as goal

pub returns-in-Err-clause-reads : goal.returns-in-Err-clause-reads
returns-in-Err-clause-reads g c =
    made_none _ _ _ _ _ _ refl (omega arith) (λ given held works. cut_unchanged given c.args.core.now c.step.new.self [] held c.in-Err.ensures.err (of_works given _ _ held works))

pub returns-in-Err-job_of-clause-reads : goal.returns-in-Err-job_of-clause-reads
returns-in-Err-job_of-clause-reads g c =
    made_none _ _ _ _ _ _ refl (omega arith) (λ given held works.
    let now = need_stands given c.args.core.now c.step.new.self c.args.need c.in-Ok.effects held (of_works given _ _ held works) c.in-Ok.ensures.ok c.in-Ok.ensures.stands c.in-Ok.ensures.writes c.in-Ok.ensures.settles in
    let turns = c.in-Ok.ensures.turns works.works in
    let took = took_need c.args.core.now c.step.new.self turns.0 turns.1 in
    cut_after given c.args.core.now c.step.new.self [] held took now)

pub returns-clause-reads : goal.returns-clause-reads
returns-clause-reads g c =
    made_none _ _ _ _ _ _ refl (omega arith) (λ given held works.
    let now = need_stands given c.args.core.now c.step.new.self c.args.need c.in-Ok.effects held (of_works given _ _ held works) c.in-Ok.ensures.ok c.in-Ok.ensures.stands c.in-Ok.ensures.writes c.in-Ok.ensures.settles in
    let turns = c.in-Ok.ensures.turns works.works in
    let took = took_need c.args.core.now c.step.new.self turns.0 turns.1 in
    cut_after given c.args.core.now c.step.new.self [] held took now)

pub returns-in-Ok-None-path_of-clause-reads : goal.returns-in-Ok-None-path_of-clause-reads
returns-in-Ok-None-path_of-clause-reads g c =
    made_none _ _ _ _ _ _ refl (omega arith) (λ given held works.
    let now = need_stands given c.args.core.now c.step.new.self c.args.need c.in-Ok.effects held (of_works given _ _ held works) c.in-Ok.ensures.ok c.in-Ok.ensures.stands c.in-Ok.ensures.writes c.in-Ok.ensures.settles in
    let turns = c.in-Ok.ensures.turns works.works in
    let took = took_need c.args.core.now c.step.new.self turns.0 turns.1 in
    cut_after given c.args.core.now c.step.new.self [] held took now)

pub returns-in-Ok-Some-clause-reads : goal.returns-in-Ok-Some-clause-reads
returns-in-Ok-Some-clause-reads g c =
    made_none _ _ _ _ _ _ refl (omega arith) (λ given held works.
    let now = need_stands given c.args.core.now c.step.new.self c.args.need c.in-Ok.effects held (of_works given _ _ held works) c.in-Ok.ensures.ok c.in-Ok.ensures.stands c.in-Ok.ensures.writes c.in-Ok.ensures.settles in
    let turns = c.in-Ok.ensures.turns works.works in
    let took = took_need c.args.core.now c.step.new.self turns.0 turns.1 in
    let slice = c.as_slice.ensures.value in
    let found = c.in-Ok-Some.ensures in
    let is = c.in-Ok-Some.field-0-is in
    let first : Some c.in-Ok-Some.job ≡ first_of (jobs_of c.in-Ok.effects) = cc in
    works_after given c.args.core.now c.step.new.self c.in-Ok-Some.job [] held took now (again_or_read c.step.new.self c.args.need.path c.in-Ok.effects c.in-Ok-Some.job turns.2 first))

pub returns-in-Ok-Some-clause-works : goal.returns-in-Ok-Some-clause-works
returns-in-Ok-Some-clause-works g c works =
    let slice = c.as_slice.ensures.value in
    let found = c.in-Ok-Some.ensures in
    let is = c.in-Ok-Some.field-0-is in
    let first : Some c.in-Ok-Some.job ≡ first_of (jobs_of c.in-Ok.effects) = cc in
    again_or_read c.step.new.self c.args.need.path c.in-Ok.effects c.in-Ok-Some.job (c.in-Ok.ensures.turns works).2 first

pub returns-in-Ok-Some-path_of-clause-reads : goal.returns-in-Ok-Some-path_of-clause-reads
returns-in-Ok-Some-path_of-clause-reads g c =
    made_later _ _ _ _ _ _ _ _ c.load.ensures.reads (λ given made later held works.
    let now = need_stands given c.args.core.now c.step.new.self c.args.need c.in-Ok.effects held (of_works given _ _ held works) c.in-Ok.ensures.ok c.in-Ok.ensures.stands c.in-Ok.ensures.writes c.in-Ok.ensures.settles in
    let turns = c.in-Ok.ensures.turns works.works in
    let slice = c.as_slice-2.ensures.value in
    let found = c.in-Ok-Some-path_of.ensures in
    let is = c.in-Ok-Some-path_of.field-0-is in
    let first : Some c.in-Ok-Some-path_of.path ≡ first_of (loads_of c.in-Ok.effects) = cc in
    then_read given c.args.core.now c.step.new.self c.load.new.core made held _ _ turns.0 turns.1
    (later turns.1 held (awaits_after given c.step.new.self c.in-Ok-Some-path_of.path held now (reads_path c.step.new.self c.args.need.path c.in-Ok.effects c.in-Ok-Some-path_of.path turns.2 first))))

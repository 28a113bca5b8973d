use Rattle.std.proofs.Common.{refl, sym, subst, arith}
use Rattle.cl_core.specs.Standing.{WorksOn}
use Rattle.clsd.specs.Serving.{Works}
use Rattle.clsd.proofs.Reading.{made_more, made_none}
use Rattle.clsd.proofs.Served.{cut_after, took_more, took_none, took_some_more}
use Rattle.clsd.proofs.work.work.Goals as goal

pub returns-in-Err-clause-reads : goal.returns-in-Err-clause-reads
returns-in-Err-clause-reads g c =
    made_more _ _ _ _ _ _ _ _ _ _ _ c.loop-count.invariant.reads c.in-Err.ensures.reads (λ given xs ys so_far last held works.
    let here = so_far held works in
    let off = last here.1.1 held (subst (λ job. Works given c.loop-count.core job held) (sym c.in-Need.ensures.answer) here.0) in
    (off.0, took_some_more c.args.core.now c.loop-count.core c.read_first.new.core xs ys here.1 off.1))

pub loop-count-preserved : goal.loop-count-preserved
loop-count-preserved g c = record {
  kept = c.resume_job.ensures.kept;
  works = λ works. c.in-Ok.ensures.works (subst (WorksOn c.loop-count.core) (sym c.in-Need.ensures.answer) (c.loop-count.invariant.works works));
  reads = made_more _ _ _ _ _ _ _ _ _ _ _ c.loop-count.invariant.reads c.in-Ok.ensures.reads (λ given xs ys so_far last held works.
      let here = so_far held works in
      let more = last here.1.1 held (subst (λ job. Works given c.loop-count.core job held) (sym c.in-Need.ensures.answer) here.0) in
      (more.0, took_more c.args.core.now c.loop-count.core c.read_first.new.core xs ys here.1 more.1));
}

pub loop-count-init : goal.loop-count-init
loop-count-init g c = record {
  kept = c.new-kept.ensures;
  works = λ works. works;
  reads = made_none _ _ _ _ _ _ refl (search (arith)) (λ given held works. (works, took_none c.args.core.now));
}

pub returns-clause-reads : goal.returns-clause-reads
returns-clause-reads g c =
    let r = c.loop-count.invariant.reads in
    (r.0, r.1, λ given next held works. let here = r.2 given next held works in cut_after given c.args.core.now c.loop-count.core r.0 held here.1 (record { stands = here.0.stands; writes = here.0.writes; settled = here.0.settled }))

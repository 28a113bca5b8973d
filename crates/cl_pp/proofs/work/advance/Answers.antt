use Rattle.std.proofs.Common.{◌∙◌, Option, Some, sym, refl, subst}
use Rattle.std.proofs.lemmas.List.{append-nil}
use Rattle.std.specs.List.{AllByRecursion}
use Rattle.cl_pp.specs.declared.aim.Target.{Target}
use Rattle.cl_pp.specs.declared.work.PpWork.{PpWork}
use Rattle.cl_pp.specs.Resuming.{Agree}
use Rattle.cl_pp.specs.code.Resuming.{Passes}
use Rattle.cl_pp.proofs.Waiting.{Laid, all_front, all_last, all_more, waits_end, waits_on, waits_same}
use Rattle.cl_pp.proofs.work.advance.Goals as goal

pub returns-in_default-clause-done : goal.returns-in_default-clause-done
returns-in_default-clause-done g c = λ before folders path text none h.
    waits_same _ _ before folders path text c.args.work.now (record c.args.work.now { frames = c.pop.new.self }) refl refl (sym (append-nil c.pop.new.self) ∙ sym c.in_default.ensures.items) refl h

pub lines-requires-clause-laid : goal.lines-requires-clause-laid
lines-requires-clause-laid g c = all_last Laid c.pop.new.self c.in-Some.frame (subst (AllByRecursion Laid) c.in-Some.ensures.items c.requires.laid)

pub returns-in_ok-push-clause-done : goal.returns-in_ok-push-clause-done
returns-in_ok-push-clause-done g c = λ before folders path text none h.
    let l = c.in_ok-target.ensures in
    let new : PpWork = record { table = c.lines.new.table; made = c.lines.new.made; shelf = c.args.work.now.shelf; frames = c.push.new.self; target = Some c.in-Some-target.target } in
    waits_on _ _ before folders path text c.args.work.now new c.pop.new.self c.in-Some.frame c.lines.new.place c.in-Some-target.target c.in-Some.ensures.items c.in_ok-push.ensures.ok none refl l.deps l.keeps
    (λ w past at going stand keeps. subst (λ (x : Option Target). Passes w c.in-Some.frame.source.opened.value past c.in-Some.frame.place c.args.work.now.made.done c.lines.new.place c.lines.new.made.done x) c.in-Some-target.is (l.done w past at going stand keeps)) h

-- what is left of the open files is laid out
pub returns-in_ok-push-clause-sound : goal.returns-in_ok-push-clause-sound
returns-in_ok-push-clause-sound g c =
    let l = c.in_ok-target.ensures in
    let laid = subst (AllByRecursion Laid) c.in-Some.ensures.items c.requires.laid in
    record {
      sees = l.sees;
      laid = subst (AllByRecursion Laid) (sym c.in_ok-push.ensures.ok) (all_more Laid c.pop.new.self (record { source = c.in-Some.frame.source; place = c.lines.new.place }) (all_front Laid c.pop.new.self c.in-Some.frame laid) (all_last Laid c.pop.new.self c.in-Some.frame laid));
      sound = λ known agree. c.requires.sound known (subst (Agree known) l.deps agree);
    }

pub returns-in_default-target-clause-done : goal.returns-in_default-target-clause-done
returns-in_default-target-clause-done g c = λ before folders path text none h.
    let l = c.in_ok-target.ensures in
    let new : PpWork = record { table = c.lines.new.table; made = c.lines.new.made; shelf = c.args.work.now.shelf; frames = c.pop.new.self; target = c.args.work.now.target } in
    waits_end _ _ before folders path text c.args.work.now new c.pop.new.self c.in-Some.frame c.lines.new.place c.in-Some.ensures.items refl none none l.deps l.keeps
    (λ w past at going stand keeps. subst (λ (x : Option Target). Passes w c.in-Some.frame.source.opened.value past c.in-Some.frame.place c.args.work.now.made.done c.lines.new.place c.lines.new.made.done x) c.in_default-target.is (l.done w past at going stand keeps)) h

pub returns-in_default-target-clause-sound : goal.returns-in_default-target-clause-sound
returns-in_default-target-clause-sound g c =
    let l = c.in_ok-target.ensures in
    record {
      sees = l.sees;
      laid = all_front Laid c.pop.new.self c.in-Some.frame (subst (AllByRecursion Laid) c.in-Some.ensures.items c.requires.laid);
      sound = λ known agree. c.requires.sound known (subst (Agree known) l.deps agree);
    }

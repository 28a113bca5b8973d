use Rattle.std.proofs.Common.{◌≡◌, ℕ, List, ◌∙◌, Option, Some, false, refl, sym, subst, rules}
use Rattle.cl_base.specs.declared.headers.Known.{Known}
use Rattle.cl_headers.specs.Noting.{IsNoted}
use Rattle.cl_headers.specs.declared.dep.Dep.{Dep}
use Rattle.cl_pp.specs.declared.made.Wanted.{Wanted}
use Rattle.cl_pp.specs.declared.work.PpWork.{PpWork}
use Rattle.cl_pp.specs.Resuming.{Agree}
use Rattle.cl_pp.specs.code.Resuming.{Followed, Stops, deps_by, with_target}
use Rattle.cl_pp.proofs.Needing.{none_wanted}
use Rattle.cl_pp.proofs.Reading.{noted_first, noted_then}
use Rattle.cl_pp.proofs.Resuming.{noted_agree}
use Rattle.cl_pp.proofs.Waiting.{all_read, waits_same}
use Rattle.cl_pp.proofs.work.run.Goals as goal
use Rattle.cl_pp.proofs.work.run.Goals.{in-Some+in_ok-wanted-in-Some+in_default, in-None+in_ok-advance-in-None+else-not-branch}

pub loop-count-init : goal.loop-count-init
loop-count-init g c = record {
  sound = c.requires.sound;
  fixed = refl;
  noted = noted_first (g.V.HeaderView.known c.args.view.now) c.args.work.now.made.done.deps (g.V.HeaderView.asked c.args.view.now);
  waits = λ before path text h. h;
}

pub follow-requires-clause-sound : goal.follow-requires-clause-sound
follow-requires-clause-sound g c = let s = c.loop-count.invariant.sound in record { sees = s.sees; laid = s.laid; sound = s.sound }

pub follow-requires-clause-agrees : goal.follow-requires-clause-agrees
follow-requires-clause-agrees g c =
    let known = g.V.HeaderView.known in
    let v = c.loop-count.invariant in
    subst (λ (k : List ℕ → Known). Agree k c.loop-count.work.made.done.deps) (sym v.fixed) (noted_agree (known c.args.view.now) c.args.work.now.made.done.deps c.loop-count.work.made.done.deps _ _ c.requires.agrees v.noted)

pub returns-in_err-wanted-in-Some-clause-fixed : goal.returns-in_err-wanted-in-Some-clause-fixed
returns-in_err-wanted-in-Some-clause-fixed g c = c.in_err-wanted-in-Some.ensures.fixed ∙ c.loop-count.invariant.fixed

pub returns-in-Some-2-clause-done : goal.returns-in-Some-2-clause-done
returns-in-Some-2-clause-done g c = λ before path text h.
    let macros = g.B.MacroBase.macros c.args.base.now in
    let numbers = g.B.MacroBase.events c.args.base.now in
    let known = g.V.HeaderView.known in
    let includes = c.args.config.now.includes in
    let v = c.loop-count.invariant in
    let at : PpWork = record c.loop-count.work { target = c.take.new.self } in
    let waits = waits_same macros numbers before includes path text c.loop-count.work (with_target (Some c.in-Some.target) at) refl refl refl c.in-Some.ensures.value (v.waits before path text h) in
    subst (λ (k : List ℕ → Known). Stops macros numbers before k includes path text c.follow.new.work c.in-Some-2.wanted) v.fixed
    (subst (λ (x : Option Wanted). Followed macros numbers before (known c.loop-count.view) includes path text c.follow.new.work x) c.in-Some-2.is
    (c.in_ok-wanted-in-Some.ensures.done macros numbers before path text waits c.take.ensures.after))

pub returns-in-Some-2-clause-fixed : goal.returns-in-Some-2-clause-fixed
returns-in-Some-2-clause-fixed g c = c.in_ok-wanted-in-Some.ensures.fixed ∙ c.loop-count.invariant.fixed

pub returns-in-Some-2-clause-noted : goal.returns-in-Some-2-clause-noted
returns-in-Some-2-clause-noted g c =
    let known = g.V.HeaderView.known in
    let asked = g.V.HeaderView.asked in
    let v = c.loop-count.invariant in
    noted_then (known c.args.view.now) (known c.loop-count.view) _ _ c.loop-count.work.made.done.deps c.in-Some-2.wanted.seen _ _ _ v.fixed refl v.noted
    (subst (λ (x : Option Wanted). IsNoted (known c.loop-count.view) c.loop-count.work.made.done.deps (deps_by x c.follow.new.work) (asked c.loop-count.view) (asked c.follow.new.view)) c.in-Some-2.is c.in_ok-wanted-in-Some.ensures.noted)

pub advance-requires : goal.advance-requires
advance-requires g c = let s = c.loop-count.invariant.sound in record { sees = s.sees; laid = s.laid; sound = s.sound }

pub returns-in_err-advance-in-None-clause-fixed : goal.returns-in_err-advance-in-None-clause-fixed
returns-in_err-advance-in-None-clause-fixed g c = c.loop-count.invariant.fixed

pub returns-then-not-branch-clause-done : goal.returns-then-not-branch-clause-done
returns-then-not-branch-clause-done g c = λ before path text h.
    let macros = g.B.MacroBase.macros c.args.base.now in
    let numbers = g.B.MacroBase.events c.args.base.now in
    let known = g.V.HeaderView.known c.args.view.now in
    let includes = c.args.config.now.includes in
    let v = c.loop-count.invariant in
    let a = c.in_ok-advance-in-None.ensures in
    let over : c.in_ok-advance-in-None.field-0 ≡ false = search rules in
    let ends = a.end over in
    let at : PpWork = record c.loop-count.work { target = c.take.new.self } in
    let waits = waits_same macros numbers before includes path text c.loop-count.work at refl refl refl (c.take.ensures.after ∙ c.in-None.ensures.value) (v.waits before path text h) in
    let new = a.done before includes path text c.take.ensures.after waits in
    let agree = noted_agree known c.args.work.now.made.done.deps c.loop-count.work.made.done.deps _ _ c.requires.agrees v.noted in
    (all_read macros numbers before includes path text known c.advance.new.work ends.0 (ends.1 ∙ c.take.ensures.after) (subst (Agree known) (sym a.deps) agree) new, none_wanted c.advance.new.work.made.done.deps new.going)

pub returns-then-not-branch-clause-fixed : goal.returns-then-not-branch-clause-fixed
returns-then-not-branch-clause-fixed g c = c.loop-count.invariant.fixed

pub returns-then-not-branch-clause-noted : goal.returns-then-not-branch-clause-noted
returns-then-not-branch-clause-noted g c =
    let known = g.V.HeaderView.known c.args.view.now in
    let asked = g.V.HeaderView.asked in
    subst (λ (ds : List Dep). IsNoted known c.args.work.now.made.done.deps ds (asked c.args.view.now) (asked c.loop-count.view)) (sym c.in_ok-advance-in-None.ensures.deps) c.loop-count.invariant.noted

pub loop-count-preserved : goal.loop-count-preserved
loop-count-preserved g c =
    let macros = g.B.MacroBase.macros c.args.base.now in
    let numbers = g.B.MacroBase.events c.args.base.now in
    let known = g.V.HeaderView.known in
    let asked = g.V.HeaderView.asked in
    let includes = c.args.config.now.includes in
    let v = c.loop-count.invariant in
    let at : PpWork = record c.loop-count.work { target = c.take.new.self } in
    elim c.match-take.branch [
      | in-Some+in_ok-wanted-in-Some+in_default x ↦
          let r = x.in_ok-wanted-in-Some.ensures in
          record {
            sound = rw x.work-is r.sound;
            fixed = rw x.view-is (r.fixed ∙ v.fixed);
            noted = rw (x.view-is, x.work-is) (noted_then (known c.args.view.now) (known c.loop-count.view) _ _ c.loop-count.work.made.done.deps x.follow.new.work.made.done.deps _ _ _ v.fixed refl v.noted
                (subst (λ (w : Option Wanted). IsNoted (known c.loop-count.view) c.loop-count.work.made.done.deps (deps_by w x.follow.new.work) (asked c.loop-count.view) (asked x.follow.new.view)) x.in_default.is r.noted));
            waits = rw x.work-is (λ before path text h.
                let waits = waits_same macros numbers before includes path text c.loop-count.work (with_target (Some x.in-Some.target) at) refl refl refl x.in-Some.ensures.value (v.waits before path text h) in
                subst (λ (w : Option Wanted). Followed macros numbers before (known c.loop-count.view) includes path text x.follow.new.work w) x.in_default.is (r.done macros numbers before path text waits c.take.ensures.after));
          }
      | in-None+in_ok-advance-in-None+else-not-branch x ↦
          let r = x.in_ok-advance-in-None.ensures in
          record {
            sound = rw x.work-is r.sound;
            fixed = rw x.view-is v.fixed;
            noted = rw (x.view-is, x.work-is) (subst (λ (ds : List Dep). IsNoted (known c.args.view.now) c.args.work.now.made.done.deps ds (asked c.args.view.now) (asked c.loop-count.view)) (sym r.deps) v.noted);
            waits = rw x.work-is (λ before path text h. r.done before includes path text c.take.ensures.after
                (waits_same macros numbers before includes path text c.loop-count.work at refl refl refl (c.take.ensures.after ∙ x.in-None.ensures.value) (v.waits before path text h)));
          }
    ]

pub returns-clause-fixed : goal.returns-clause-fixed
returns-clause-fixed g c = c.loop-count.invariant.fixed

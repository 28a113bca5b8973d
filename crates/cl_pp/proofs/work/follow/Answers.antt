use Rattle.std.proofs.Common.{◌≡◌, List, [], ◌∷◌, ◌++◌, ◌∙◌, Some, ap, sym, refl, subst}
use Rattle.std.proofs.lemmas.List.{append-nil}
use Rattle.std.specs.List.{AllByRecursion}
use Rattle.cl_headers.specs.Noting.{IsNoted}
use Rattle.cl_pp.specs.declared.done.PpDone.{PpDone}
use Rattle.cl_pp.specs.declared.made.Frame.{Frame}
use Rattle.cl_pp.specs.declared.made.Reached.{Reached}
use Rattle.cl_pp.specs.declared.shelf.Shelf.{Shelf}
use Rattle.cl_pp.specs.declared.work.PpWork.{PpWork}
use Rattle.cl_pp.specs.Resuming.{Agree}
use Rattle.cl_pp.specs.Standing.{wanted}
use Rattle.cl_pp.specs.code.Reaching.{IsKnown, IsLaid, Reaches, TellsNeed, deps_after}
use Rattle.cl_pp.specs.code.Resuming.{with_target}
use Rattle.cl_pp.specs.code.Shelving.{IsSound}
use Rattle.cl_pp.proofs.Resuming.{found_before, found_by, found_there, noted_before, start_of}
use Rattle.cl_pp.proofs.Waiting.{Laid, all_more, none_open, sees_same, some_world, stops_at, waits_done, waits_dropped, waits_entered}
use Rattle.cl_pp.proofs.work.follow.Goals as goal

pub returns-in_default-clause-done : goal.returns-in_default-clause-done
returns-in_default-clause-done g c = λ macros numbers before path text h none.
    let old = c.args.work.now in
    let empty : old.frames ≡ [] = none_open old.frames c.in_default.ensures.some.1 in
    waits_dropped macros numbers before c.args.config.now.includes path text (with_target (Some c.args.target) old) (record old { frames = c.pop.new.self }) c.args.target
    empty (sym (append-nil c.pop.new.self) ∙ sym c.in_default.ensures.items ∙ empty) refl none refl refl h

pub open_file-requires : goal.open_file-requires
open_file-requires g c =
    let known = g.V.HeaderView.known c.args.view.now in
    c.in_ok-source-in-Enters.ensures.laid known (c.requires.sound.sound known c.requires.agrees) (subst (IsKnown known) c.in-Enters.is c.in_ok-reached.ensures.known)

pub returns-in-Nothing-clause-done : goal.returns-in-Nothing-clause-done
returns-in-Nothing-clause-done g c = λ macros numbers before path text h none.
    let old = c.args.work.now in
    let new : PpWork = record { table = old.table; made = c.reach.new.made; shelf = old.shelf; frames = c.push.new.self; target = old.target } in
    let r = c.in_ok-reached.ensures in
    waits_done macros numbers before c.args.config.now (g.V.HeaderView.known c.args.view.now) path text (with_target (Some c.args.target) old) new c.pop.new.self c.in-Some.frame c.args.target c.in-Some.ensures.items refl h
    c.in_ok-push.ensures.ok none refl r.events (subst (TellsNeed old.made.done.deps new.made.done.deps) c.in-Nothing.is (r.told h.going))
    (λ w i. subst (Reaches w c.args.target old.made.done new.made.done) c.in-Nothing.is (r.done w i))

pub returns-in-Nothing-clause-sound : goal.returns-in-Nothing-clause-sound
returns-in-Nothing-clause-sound g c =
    let asked = g.V.HeaderView.asked in
    let known = g.V.HeaderView.known c.args.view.now in
    let old = c.args.work.now in
    let r = c.in_ok-reached.ensures in
    let noted = subst (λ (x : Reached). IsNoted known old.made.done.deps (deps_after c.reach.new.made.done.deps x) (asked c.args.view.now) (asked c.reach.new.view)) c.in-Nothing.is r.noted in
    record {
      sees = r.sees;
      laid = subst (AllByRecursion Laid) (c.in-Some.ensures.items ∙ sym c.in_ok-push.ensures.ok) c.requires.sound.laid;
      sound = λ other agree. c.requires.sound.sound other (noted_before other known old.made.done.deps c.reach.new.made.done.deps _ _ noted agree);
    }

pub returns-in_ok-open_file-in-Enters-clause-done : goal.returns-in_ok-open_file-in-Enters-clause-done
returns-in_ok-open_file-in-Enters-clause-done g c = λ macros numbers before path text h none.
    let old = c.args.work.now in
    let r = c.in_ok-reached.ensures in
    let e = c.in_ok-open_file-in-Enters.ensures in
    let s = c.in_ok-source-in-Enters.ensures.is in
    let source = c.in_ok-source-in-Enters.source in
    let mid = c.reach.new.made.done in
    waits_entered macros numbers before c.args.config.now (g.V.HeaderView.known c.args.view.now) path text (with_target (Some c.args.target) old) c.open_file.new.work c.pop.new.self c.in-Some.frame c.args.target c.in-Some.ensures.items refl h
    mid source c.in-Enters.found (e.frames ∙ ap (λ (fs : List Frame). fs ++ start_of source ∷ []) c.in_ok-push.ensures.ok) (e.target ∙ none) e.table r.events (subst (TellsNeed old.made.done.deps mid.deps) c.in-Enters.is (r.told h.going))
    (record { number = s.0; depth_is = s.1; path = s.2; text = s.3 }) e.opened
    (λ w i. subst (Reaches w c.args.target old.made.done mid) c.in-Enters.is (r.done w i))

pub returns-in_ok-open_file-in-Enters-clause-sound : goal.returns-in_ok-open_file-in-Enters-clause-sound
unfolding open_file-requires
returns-in_ok-open_file-in-Enters-clause-sound g c =
    let known = g.V.HeaderView.known c.args.view.now in
    let old = c.args.work.now in
    let r = c.in_ok-reached.ensures in
    let e = c.in_ok-open_file-in-Enters.ensures in
    let source = c.in_ok-source-in-Enters.source in
    let laid : IsLaid source.text source.opened.value = c.in_ok-source-in-Enters.ensures.laid known (c.requires.sound.sound known c.requires.agrees) (subst (IsKnown known) c.in-Enters.is r.known) in
    let mid = c.reach.new.made.done in
    let world = some_world c.in-Some.frame.source c.args.config.now known in
    let found = found_by world.0 c.args.target old.made.done mid c.in-Enters.found (subst (Reaches world.0 c.args.target old.made.done mid) c.in-Enters.is (r.done world.0 world.1)).1 in
    let deps : c.open_file.new.work.made.done.deps ≡ mid.deps = ap (λ (x : PpDone). x.deps) e.opened.is in
    record {
      sees = sees_same c.reach.new.made c.open_file.new.work.made e.seen (ap (λ (x : PpDone). x.looked) e.opened.is) r.sees;
      laid = subst (AllByRecursion Laid) (sym e.frames) (all_more Laid c.push.new.self (start_of source) (subst (AllByRecursion Laid) (c.in-Some.ensures.items ∙ sym c.in_ok-push.ensures.ok) c.requires.sound.laid) laid);
      sound = λ other agree.
          let agreed : Agree other mid.deps = subst (Agree other) deps agree in
          subst (λ (x : Shelf). IsSound other x) (sym e.shelf)
          (c.in_ok-source-in-Enters.ensures.sound other (c.requires.sound.sound other (found_before other world.0 c.args.target old.made.done mid c.in-Enters.found found agreed))
          (found_there other world.0 c.args.target old.made.done mid c.in-Enters.found found agreed));
    }

pub returns-in_ok-seen-in-Needs-clause-done : goal.returns-in_ok-seen-in-Needs-clause-done
returns-in_ok-seen-in-Needs-clause-done g c = λ macros numbers before path text h none.
    let known = g.V.HeaderView.known c.args.view.now in
    let old = c.args.work.now in
    let r = c.in_ok-reached.ensures in
    let new : PpWork = record { table = old.table; made = c.reach.new.made; shelf = old.shelf; frames = c.push.new.self; target = Some c.args.target } in
    let world = some_world c.in-Some.frame.source c.args.config.now known in
    let same : new.made.done ≡ old.made.done = (subst (Reaches world.0 c.args.target old.made.done new.made.done) c.in-Needs.is (r.done world.0 world.1)).0 in
    let seen : c.in_ok-seen-in-Needs.seen ≡ old.made.done.deps ++ c.in-Needs.asked =
    c.in_ok-seen-in-Needs.ensures ∙ (λ i. (c.as_slice.ensures.value ∙ ap (λ (x : PpDone). x.deps) same) i ++ c.as_slice-in-Needs.ensures.value i) in
    stops_at macros numbers before c.args.config.now known path text (with_target (Some c.args.target) old) new c.pop.new.self c.in-Some.frame c.args.target c.in-Some.ensures.items refl h
    (record { path = c.in-Needs.path; seen = c.in_ok-seen-in-Needs.seen }) c.in-Needs.asked c.in_ok-push.ensures.ok refl refl same seen
    (ap wanted seen ∙ subst (TellsNeed old.made.done.deps new.made.done.deps) c.in-Needs.is (r.told h.going)) c.requires.agrees
    (λ w i. (subst (Reaches w c.args.target old.made.done new.made.done) c.in-Needs.is (r.done w i)).1)

pub returns-in_ok-seen-in-Needs-clause-sound : goal.returns-in_ok-seen-in-Needs-clause-sound
returns-in_ok-seen-in-Needs-clause-sound g c =
    let known = g.V.HeaderView.known c.args.view.now in
    let old = c.args.work.now in
    let r = c.in_ok-reached.ensures in
    let world = some_world c.in-Some.frame.source c.args.config.now known in
    let same : c.reach.new.made.done ≡ old.made.done = (subst (Reaches world.0 c.args.target old.made.done c.reach.new.made.done) c.in-Needs.is (r.done world.0 world.1)).0 in
    record {
      sees = r.sees;
      laid = subst (AllByRecursion Laid) (c.in-Some.ensures.items ∙ sym c.in_ok-push.ensures.ok) c.requires.sound.laid;
      sound = λ other agree. c.requires.sound.sound other (subst (λ (x : PpDone). Agree other x.deps) same agree);
    }

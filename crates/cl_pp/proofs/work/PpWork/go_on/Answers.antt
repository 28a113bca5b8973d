use Rattle.std.proofs.Common.{ℕ, List, Option, refl, sym, ap, subst}
use Rattle.cl_headers.specs.Noting.{IsNoted}
use Rattle.cl_pp.specs.declared.done.PpAnswer.TheVariants as answer
use Rattle.cl_pp.specs.declared.done.PpDone.{PpDone}
use Rattle.cl_pp.specs.declared.made.Wanted.{Wanted}
use Rattle.cl_pp.specs.Preprocessing.{answer_by}
use Rattle.cl_pp.specs.Resuming.{Went}
use Rattle.cl_pp.specs.code.Resuming.{RunsTo, deps_by}
use Rattle.cl_pp.proofs.work.PpWork.go_on.Goals as goal

pub returns-in-None-clause-done : goal.returns-in-None-clause-done
returns-in-None-clause-done g c = λ before path text h.
    let macros = g.B.MacroBase.macros c.args.base.now in
    let numbers = g.B.MacroBase.events c.args.base.now in
    let known = g.V.HeaderView.known c.args.view.now in
    let asked = g.V.HeaderView.asked in
    let includes = c.args.config.now.includes in
    let deps = c.args.self.made.done.deps in
    let done = c.run.new.work.made.done in
    let runs = subst (RunsTo macros numbers before known includes path text c.run.new.work) c.in-None.is (c.in_ok-run.ensures.done before path text h) in
    let went : Went before known includes path text deps (asked c.args.view.now) (asked c.run.new.view) done (answer.Done done) = record {
      read = runs.0;
      is = sym (ap (λ (o : Option (List ℕ)). answer_by o done) runs.1);
      noted = subst (λ (x : Option Wanted). IsNoted known deps (deps_by x c.run.new.work) (asked c.args.view.now) (asked c.run.new.view)) c.in-None.is c.in_ok-run.ensures.noted;
    } in
    subst (λ (d : PpDone). Went before known includes path text deps (asked c.args.view.now) (asked c.run.new.view) d (answer.Done d)) (sym c.done_of.ensures) went

pub returns-in-Some-clause-done : goal.returns-in-Some-clause-done
returns-in-Some-clause-done g c = λ before path text h.
    let macros = g.B.MacroBase.macros c.args.base.now in
    let numbers = g.B.MacroBase.events c.args.base.now in
    let known = g.V.HeaderView.known c.args.view.now in
    let asked = g.V.HeaderView.asked in
    let includes = c.args.config.now.includes in
    let it = c.in-Some.field-0 in
    let done : PpDone = record c.run.new.work.made.done { deps = it.seen } in
    let stops = subst (RunsTo macros numbers before known includes path text c.run.new.work) c.in-Some.is (c.in_ok-run.ensures.done before path text h) in
    record {
      done = done;
      went = record {
        read = stops.read;
        is = sym (ap (λ (o : Option (List ℕ)). answer_by o done) stops.needs);
        noted = subst (λ (x : Option Wanted). IsNoted known c.args.self.made.done.deps (deps_by x c.run.new.work) (asked c.args.view.now) (asked c.run.new.view)) c.in-Some.is c.in_ok-run.ensures.noted;
      };
      seen = refl;
      waits = stops.waits;
    }

use Rattle.std.proofs.Common.{List, ℕ, None, sym, subst}
use Rattle.cl_base.specs.declared.headers.Known.{Known}
use Rattle.cl_base.specs.declared.query.Query.{Query}
use Rattle.cl_headers.specs.declared.dep.Dep.{Dep}
use Rattle.cl_pp.specs.declared.done.PpAnswer.TheVariants as pp
use Rattle.cl_pp.specs.declared.done.PpDone.{PpDone}
use Rattle.cl_pp.specs.declared.done.PpStep.{PpStep}
use Rattle.cl_pp.specs.Before.{before_of}
use Rattle.cl_pp.specs.Resuming.{GoesOn, Went}
use Rattle.cl_query.specs.declared.answers.Found.TheVariants.{Need}
use Rattle.cl_query.specs.Finding.{FindsOver, IsAnsweredBy}
use Rattle.cl_query.proofs.Found.{answered, needed, only_symbols}
use Rattle.cl_query.proofs.answers.find.Goals as goal

pub returns-in-Done-clause-found : goal.returns-in-Done-clause-found
returns-in-Done-clause-found c =
    let job = c.args.job.now in
    let begun = c.in_ok-work.ensures.begun in
    let deps = c.in_ok-work.work.made.done.deps in
    let goes = subst (GoesOn (λ name. None) (λ name. None) (before_of begun.start) _ job.config.includes job.path job.text deps c.new-view.result.asked c.go_on.new.view.asked) c.in-Done.is (c.in_ok-done.ensures.done (before_of begun.start) job.path job.text begun.waits) in
    let went = subst (λ (known : List ℕ → Known). Went (before_of begun.start) known job.config.includes job.path job.text deps c.new-view.result.asked c.go_on.new.view.asked c.in-Done.done (pp.Done c.in-Done.done)) c.new-view.ensures.known goes in
    subst (λ (kind : Query). FindsOver kind job.config job.headers job.path job.text c.in_ok-found-in-Done.found) (sym (only_symbols job.kind))
    (answered job.config job.headers job.path job.text begun.start c.new-view.result.asked c.go_on.new.view.asked deps begun.first c.in_ok-work.ensures.agrees c.in-Done.done c.in_ok-found-in-Done.found went
    (subst (λ (text : List ℕ). IsAnsweredBy text c.in-Done.done c.in_ok-found-in-Done.found) c.bytes.ensures.value c.in_ok-found-in-Done.ensures))

pub keep-requires-clause-begun : goal.keep-requires-clause-begun
keep-requires-clause-begun c =
    let job = c.args.job.now in
    let begun = c.in_ok-work.ensures.begun in
    let deps = c.in_ok-work.work.made.done.deps in
    let goes = subst (GoesOn (λ name. None) (λ name. None) (before_of begun.start) _ job.config.includes job.path job.text deps c.new-view.result.asked c.go_on.new.view.asked) c.in-Need.is (c.in_ok-done.ensures.done (before_of begun.start) job.path job.text begun.waits) in
    record { start = begun.start; first = begun.first; waits = goes.waits }

pub returns-clause-found : goal.returns-clause-found
returns-clause-found c =
    let job = c.args.job.now in
    let begun = c.in_ok-work.ensures.begun in
    let deps = c.in_ok-work.work.made.done.deps in
    let goes = subst (GoesOn (λ name. None) (λ name. None) (before_of begun.start) _ job.config.includes job.path job.text deps c.new-view.result.asked c.go_on.new.view.asked) c.in-Need.is (c.in_ok-done.ensures.done (before_of begun.start) job.path job.text begun.waits) in
    let went = subst (λ (known : List ℕ → Known). Went (before_of begun.start) known job.config.includes job.path job.text deps c.new-view.result.asked c.go_on.new.view.asked goes.done (pp.Need c.in-Need.field-0.path)) c.new-view.ensures.known goes.went in
    subst (λ (kind : Query). FindsOver kind job.config job.headers job.path job.text (Need c.in-Need.field-0.path c.in-Need.field-0.seen)) (sym (only_symbols job.kind))
    (needed job.config job.headers job.path job.text begun.start c.new-view.result.asked c.go_on.new.view.asked deps begun.first c.in_ok-work.ensures.agrees goes.done c.in-Need.field-0.path c.in-Need.field-0.seen c.get.ensures.kept went goes.seen)

use Rattle.std.proofs.Common.{◌≡◌, ap, sym, rules, ◌∷◌, [], ◌∙◌, filter, nat_eq}
use Rattle.cl_query.specs.declared.job.Job.{Job}
use Rattle.cl_query.specs.Over.{IsOver}
use Rattle.cl_core.proofs.Numbers.{the_one, none_of, contains_one}
use Rattle.cl_core.proofs.jobs.waiting_for.Goals as goal

pub returns-in-true-clause-found : goal.returns-in-true-clause-found
returns-in-true-clause-found c =
    let one : c.in-Some.waiting.now ∷ [] ≡ filter (λ w. nat_eq w.job.message c.args.job.now.message) c.args.pending.now = search rules in
    let over : IsOver c.args.job.now c.args.seen.now c.in-Some.waiting.now.job = search rules in
    (over, contains_one c.args.job.now.message c.in-Some.waiting.now c.args.pending.now one)

pub returns-in-false-clause-out : goal.returns-in-false-clause-out
returns-in-false-clause-out c = λ _ v among over.
    let one : c.in-Some.waiting.now ∷ [] ≡ filter (λ w. nat_eq w.job.message c.args.job.now.message) c.args.pending.now = search rules in
    let other : IsOver c.args.job.now c.args.seen.now c.in-Some.waiting.now.job → ⊥ = λ h. search (rules, c.is_over.ensures.1 h) in
    the_one (λ w. IsOver c.args.job.now c.args.seen.now w.job → ⊥) c.args.job.now.message c.in-Some.waiting.now v c.args.pending.now one other among (sym (ap (λ (job : Job). job.message) over.same)) over

pub returns-in-None-clause-out : goal.returns-in-None-clause-out
returns-in-None-clause-out c = λ _ v among over.
    let none : [] ≡ filter (λ w. nat_eq w.job.message c.args.job.now.message) c.args.pending.now = search rules in
    none_of c.args.job.now.message v c.args.pending.now none among (sym (ap (λ (job : Job). job.message) over.same))

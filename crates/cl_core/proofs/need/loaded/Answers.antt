use Rattle.std.proofs.Common.{◌≡◌, ◌∙◌, ap, refl, inl, inr, rules, ◌∷◌, [], ◌++◌, filter, nat_eq, length, ◌+◌, if◌then◌else◌}
use Rattle.std.specs.Prelude.{Some}
use Rattle.std.specs.Str.{bytes_eq}
use Rattle.cl_headers.specs.Headers.{Headers, known_at}
use Rattle.cl_history.specs.declared.entry.Entry.TheVariants.{Load}
use Rattle.cl_history.specs.Headers.{told}
use Rattle.cl_core.specs.Steps.{begun_again}
use Rattle.cl_core.proofs.Numbers.{none_of, contains_one, number_one}
use Rattle.cl_core.proofs.need.loaded.Goals as goal

pub returns-in-None-clause-ok : goal.returns-in-None-clause-ok
returns-in-None-clause-ok c =
    let none : [] ≡ filter (λ w. nat_eq w.job.message c.args.message) c.args.core.now.pending = search rules in
    inr (record { not_there = λ v among e. none_of c.args.message v c.args.core.now.pending none among e; same = refl; none = c.new.ensures })

pub returns-clause-ok : goal.returns-clause-ok
returns-clause-ok c =
    let one : c.in-Some.waiting.now ∷ [] ≡ filter (λ w. nat_eq w.job.message c.args.message) c.args.core.now.pending = search rules in
    let p : c.begin_again.new.pending ≡ begun_again c.args.message c.args.core.now.jobs (length c.args.core.now.journal + 1) c.in_ok-headers-2.headers c.args.core.now.pending = search rules in
    let j : c.push.new.self ≡ c.args.core.now.journal ++ Load c.args.core.now.loads ∷ [] = search rules in
    let n : c.in-Some-checked_add.jobs ≡ c.args.core.now.jobs + 1 = search rules in
    let l : c.in-Some-checked_add-2.loads ≡ c.args.core.now.loads + 1 = search rules in
    inl (record {
      waiting = c.in-Some.waiting.now;
      waits = contains_one c.args.message c.in-Some.waiting.now c.args.core.now.pending one;
      works_for = number_one c.args.message c.in-Some.waiting.now c.args.core.now.pending one;
      alone = one;
      known = λ q. c.in_ok-headers-2.ensures q ∙ ap (λ (h : Headers). if bytes_eq c.args.path.now q then Some (told c.args.read) else known_at h q) c.in_ok-headers.ensures;
      new_is = rw (p, j, n, l) refl;
      effects_are = search rules;
    })

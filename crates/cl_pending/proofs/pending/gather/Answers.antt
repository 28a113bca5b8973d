use Rattle.std.proofs.Common.{ap, ◌∙◌, rules, ◌∷◌, [], map}
use Rattle.std.proofs.lemmas.List.{map-append}
use Rattle.std.specs.Prelude.{Some, None}
use Rattle.cl_pending.proofs.Indexed.{gathered}
use Rattle.cl_pending.proofs.pending.gather.Goals as goal
use Rattle.cl_pending.proofs.pending.gather.Goals.{in-Some+in_ok-push, in_default}

pub loop-number-preserved : goal.loop-number-preserved
loop-number-preserved g c =
    elim c.match-get.branch [
      | in-Some+in_ok-push w ↦ rw w.found-is
          (gathered c.args.waiting.now c.args.numbers.now c.loop-number.number-index (map (λ w. w.now) c.loop-number.found.items) _ (Some w.in-Some.waiting.now) c.loop-number-test.true c.loop-number.invariant
          (search rules) (ap (map (λ w. w.now)) w.in_ok-push.ensures.items ∙ map-append (λ w. w.now) c.loop-number.found.items (w.in-Some.waiting ∷ [])))
      | in_default w ↦ rw w.found-is
          (gathered c.args.waiting.now c.args.numbers.now c.loop-number.number-index (map (λ w. w.now) c.loop-number.found.items) _ None c.loop-number-test.true c.loop-number.invariant
          (search rules) (search rules))
    ]

use Rattle.std.proofs.Common.{◌≡◌, ◌∷◌, [], rules, filter, nat_eq}
use Rattle.cl_core.proofs.Numbers.{keys_for}
use Rattle.cl_core.proofs.jobs.begin_again.Goals as goal

pub replace-requires : goal.replace-requires
replace-requires c =
    let one : c.in-Some.waiting.now ∷ [] ≡ filter (λ w. nat_eq w.job.message c.args.message) c.args.pending.now = search rules in
    keys_for c.args.message c.args.number c.args.mark c.args.headers.now c.in-Some.waiting.now c.in_ok-again.again c.args.pending.now one c.in_ok-again.ensures

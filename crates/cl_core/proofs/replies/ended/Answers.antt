use Rattle.std.proofs.Common.{◌≡◌, ◌∙◌, ap, map, filter, rules, subst, List}
use Rattle.cl_core.specs.declared.event.Effect.TheVariants.{Reply}
use Rattle.cl_core.specs.declared.waiting.Waiting.{Waiting}
use Rattle.cl_core.specs.Waiting.{is_meant}
use Rattle.cl_core.specs.Deciding.{ended}
use Rattle.cl_core.specs.Decisions.{IsEnding}
use Rattle.cl_core.proofs.Decided.{meant_which}
use Rattle.cl_core.proofs.replies.ended.Goals as goal

pub returns : goal.returns
returns c =
    let found : map (λ w. w.now) c.as_slice.result.now ≡ filter (is_meant c.in-Some.which) c.args.core.now.pending = search rules in
    rw c.in-Some.is
    (c.in_ok-effects.ensures ∙ ap (λ (ws : List Waiting). map Reply (ended c.args.mark c.args.how ws)) (found ∙ meant_which c.in-Some.which c.args.core.now.pending (subst IsEnding c.in-Some.is c.requires.told)))

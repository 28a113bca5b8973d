use Rattle.std.proofs.Common.{◌≡◌, ap, sym, ◌∙◌, map, take, ◌++◌, ◌+◌, ◌∷◌, []}
use Rattle.std.proofs.lemmas.List.{take_more, map-append}
use Rattle.cl_core.proofs.Ended.{pushed}
use Rattle.cl_core.proofs.replies.ended_by.Goals as goal

pub loop-waiting-preserved : goal.loop-waiting-preserved
loop-waiting-preserved c =
    let item = c.waiting-item.result in
    let more : map (λ w. w.now) (take (c.loop-waiting.waiting-index + 1) c.args.those.now) ≡ map (λ w. w.now) (take c.loop-waiting.waiting-index c.args.those.now) ++ item.now ∷ [] =
    ap (map (λ w. w.now)) (take_more c.args.those.now c.loop-waiting.waiting-index item c.loop-waiting-test.true ∙ ap (λ x. take c.loop-waiting.waiting-index c.args.those.now ++ x ∷ []) (sym c.waiting-item.is))
    ∙ map-append (λ w. w.now) (take c.loop-waiting.waiting-index c.args.those.now) (item ∷ []) in
    rw more
    (pushed c.args.mark c.args.how (map (λ w. w.now) (take c.loop-waiting.waiting-index c.args.those.now)) item.now c.loop-waiting.effects c.push.new.self c.in_ok-reply.reply c.loop-waiting.invariant
    (rw (← c.len.ensures.value) c.in_ok-reply.ensures) c.in_ok-push.ensures.ok)

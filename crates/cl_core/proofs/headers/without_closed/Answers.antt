use Rattle.std.proofs.Common.{◌≡◌, ◌∙◌, ap, sym, rules, take, ◌++◌, ◌∷◌, [], ◌+◌, true, false}
use Rattle.std.specs.Prelude.{is_some}
use Rattle.std.proofs.lemmas.List.{take_more}
use Rattle.cl_core.specs.Deciding.{texts_of}
use Rattle.cl_core.proofs.Forgotten.{forgotten, stays}
use Rattle.cl_core.proofs.headers.without_closed.Goals as goal
use Rattle.cl_core.proofs.headers.without_closed.Goals.{then-is_none+in_ok-forget, else-is_none}

pub loop-path-preserved : goal.loop-path-preserved
loop-path-preserved c =
    let more : take (c.loop-path.path-index + 1) c.as_slice-path-items.result.now ≡ take c.loop-path.path-index c.as_slice-path-items.result.now ++ c.path-item.result ∷ [] =
    take_more c.as_slice-path-items.result.now c.loop-path.path-index c.path-item.result c.loop-path-test.true ∙ ap (λ x. take c.loop-path.path-index c.as_slice-path-items.result.now ++ x ∷ []) (sym c.path-item.is) in
    elim c.if-is_none.branch [
      | then-is_none+in_ok-forget w ↦
          let closed : is_some (texts_of c.args.docs.now c.path-item.result) ≡ false = search (rules, w.if-is_none.true) in
          rw w.headers-is (forgotten c.loop-path.headers _ c.args.headers (texts_of c.args.docs.now) _ _ c.path-item.result more closed w.in_ok-forget.ensures.puts c.loop-path.invariant)
      | else-is_none w ↦
          let stands : is_some (texts_of c.args.docs.now c.path-item.result) ≡ true = search (rules, w.if-is_none.false) in
          rw w.headers-is (stays c.loop-path.headers c.args.headers (texts_of c.args.docs.now) _ _ c.path-item.result more stands c.loop-path.invariant)
    ]

use Rattle.std.proofs.Common.{◌≡◌, ◌+◌, None, Some, ap, ◌∙◌, arith, map, reverse}
use Rattle.cl_macro.specs.Turns.{close_at}
use Rattle.cl_macro.specs.code.Segments.{slot_word}
use Rattle.cl_macro.proofs.Segments.{dropped, over_none, over_some}
use Rattle.cl_macro.proofs.segment.close_over.Goals as goal

pub returns-in_err-inside : goal.returns-in_err-inside
returns-in_err-inside c = c.from_residual.ensures ∙ over_none (map slot_word (reverse c.args.slots.now)) c.in_err-inside.ensures.value

pub returns-in_err-behind : goal.returns-in_err-behind
returns-in_err-behind c = c.from_residual-in_err-behind.ensures
    ∙ over_some (map slot_word (reverse c.args.slots.now)) c.in_ok-inside.inside None c.in_ok-inside.ensures.value
    (c.in_err-behind.ensures.value ∙ ap (close_at 0) (dropped (c.in_ok-inside.inside + 1) (reverse c.args.slots.now)))

pub returns : goal.returns
returns c =
    ap Some (let z : c.in_ok-inside.inside + c.in_ok-behind.behind + 2 ≡ c.in_ok-behind.behind + (c.in_ok-inside.inside + 2) = omega arith in z)
    ∙ over_some (map slot_word (reverse c.args.slots.now)) c.in_ok-inside.inside (Some c.in_ok-behind.behind) c.in_ok-inside.ensures.value
    (c.in_ok-behind.ensures.value ∙ ap (close_at 0) (dropped (c.in_ok-inside.inside + 1) (reverse c.args.slots.now)))

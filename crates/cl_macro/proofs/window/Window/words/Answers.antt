use Rattle.std.proofs.Common.{◌+◌, ◌-◌, ◌<◌, ◌++◌, ◌∷◌, [], ap, sym, ◌∙◌, arith, length, take}
use Rattle.std.proofs.lemmas.List.{take_all}
use Rattle.std.proofs.lemmas.Option.{slice_get_within}
use Rattle.cl_macro.specs.code.Segments.{slot_word}
use Rattle.cl_macro.proofs.Passing.{take_on}
use Rattle.cl_macro.proofs.Windows.{get_least}
use Rattle.cl_macro.proofs.window.Window.words.Goals as goal

pub overflow_add-i : goal.overflow_add-i
overflow_add-i c = omega (arith, c.loop-slot.invariant.0, c.len-count.ensures.value, c.len-count.ensures.room)

pub loop-slot-smaller : goal.loop-slot-smaller
loop-slot-smaller c =
    let h : c.loop-slot.i < length c.args.self.now = slice_get_within c.args.self.now c.loop-slot.i (slot_word c.in-Some.slot.now) (sym c.in-Some.ensures) in
    let e : length c.args.self.now - (c.loop-slot.i + 1) < length c.args.self.now - c.loop-slot.i = omega arith in e

pub loop-slot-preserved : goal.loop-slot-preserved
loop-slot-preserved c =
    let h : c.loop-slot.i < length c.args.self.now = slice_get_within c.args.self.now c.loop-slot.i (slot_word c.in-Some.slot.now) (sym c.in-Some.ensures) in (
      omega arith,
      c.in_ok-push.ensures.ok ∙ ap (λ ws. ws ++ c.in_ok-word.field-0 ∷ []) c.loop-slot.invariant.1 ∙ ap (λ w. take c.loop-slot.i c.args.self.now ++ w ∷ []) c.in_ok-word.ensures
          ∙ sym (take_on c.args.self.now c.loop-slot.i (slot_word c.in-Some.slot.now) (sym c.in-Some.ensures)),
    )

pub returns : goal.returns
returns c = c.loop-slot.invariant.1 ∙ take_all c.loop-slot.i c.args.self.now (get_least c.args.self.now c.loop-slot.i (sym c.in_default.ensures))

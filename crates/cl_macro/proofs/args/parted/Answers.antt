use Rattle.std.proofs.Common.{◌+◌, ◌-◌, ◌<◌, ◌≤◌, ◌++◌, ◌∷◌, [], ℕ, List, ap, sym, subst, ◌∙◌, arith, length}
use Rattle.std.proofs.lemmas.Option.{slice_get_within}
use Rattle.cl_macro.specs.declared.word.Word.{Word}
use Rattle.cl_macro.specs.code.Segments.{Opens, slot_word}
use Rattle.cl_macro.proofs.Taking.{Parting, parting_done, parting_hop, parting_none, parting_on, parting_part}
use Rattle.cl_macro.proofs.args.parted.Goals as goal

pub loop-slot-init : goal.loop-slot-init
loop-slot-init c = subst (Parting c.args.whole.now c.args.most 0 0 0 c.args.most) (sym c.new-args.ensures) (parting_none c.args.whole.now c.args.most)

pub loop-slot-smaller-then-is_part : goal.loop-slot-smaller-then-is_part
loop-slot-smaller-then-is_part c =
    let h : c.loop-slot.i < length c.args.whole.now = slice_get_within c.args.whole.now c.loop-slot.i (slot_word c.in-Some.slot.now) (sym c.in-Some.ensures) in
    let e : length c.args.whole.now - (c.loop-slot.i + 1) < length c.args.whole.now - c.loop-slot.i = omega arith in e

pub loop-slot-preserved-then-is_part : goal.loop-slot-preserved-then-is_part
loop-slot-preserved-then-is_part c =
    subst (Parting c.args.whole.now c.args.most (c.loop-slot.i + 1) (c.loop-slot.i + 1) c.loop-slot.depth (c.loop-slot.commas - 1))
    (sym (c.in_ok-push.ensures.ok ∙ ap (λ (a : List Word). c.loop-slot.args ++ a ∷ []) c.in_ok-part.ensures))
    (parting_part c.args.whole.now c.args.most c.loop-slot.i c.loop-slot.from c.loop-slot.depth c.loop-slot.commas c.loop-slot.args (slot_word c.in-Some.slot.now)
    (sym c.in-Some.ensures) (sym c.if-is_part.ensures.value) c.loop-slot.invariant)

pub loop-slot-preserved-in-Some-inside : goal.loop-slot-preserved-in-Some-inside
loop-slot-preserved-in-Some-inside c =
    let o : Opens (slot_word c.in-Some.slot.now) c.loop-slot.depth = record { outer = c.in-Some-inside.ensures.opens.outer; deeper = c.in-Some-inside.ensures.opens.deeper } in
    parting_hop c.args.whole.now c.args.most c.loop-slot.i c.loop-slot.from c.loop-slot.depth c.loop-slot.commas c.in-Some-inside.inside c.loop-slot.args (slot_word c.in-Some.slot.now)
    (sym c.in-Some.ensures) (sym c.if-is_part.ensures.value) o (sym c.in-Some-inside.ensures.group ∙ c.group.ensures) c.loop-slot.invariant

pub loop-slot-smaller : goal.loop-slot-smaller
loop-slot-smaller c =
    let h : c.loop-slot.i < length c.args.whole.now = slice_get_within c.args.whole.now c.loop-slot.i (slot_word c.in-Some.slot.now) (sym c.in-Some.ensures) in
    let e : length c.args.whole.now - (c.loop-slot.i + 1) < length c.args.whole.now - c.loop-slot.i = omega arith in e

pub loop-slot-preserved : goal.loop-slot-preserved
loop-slot-preserved c =
    subst (λ (d : ℕ). Parting c.args.whole.now c.args.most (c.loop-slot.i + 1) c.loop-slot.from d c.loop-slot.commas c.loop-slot.args) (sym c.depth_after-depth.ensures.value)
    (parting_on c.args.whole.now c.args.most c.loop-slot.i c.loop-slot.from c.loop-slot.depth c.loop-slot.commas c.loop-slot.args (slot_word c.in-Some.slot.now)
    (sym c.in-Some.ensures) (sym c.if-is_part.ensures.value) (subst (λ (d : ℕ). d ≤ c.loop-slot.depth + 1) c.depth_after-depth.ensures.value c.depth_after-depth.ensures.within) c.loop-slot.invariant)

pub returns : goal.returns
returns c = c.in_ok-push-2.ensures.ok ∙ ap (λ (a : List Word). c.loop-slot.args ++ a ∷ []) c.in_ok-part-2.ensures
    ∙ parting_done c.args.whole.now c.args.most c.loop-slot.i c.loop-slot.from c.loop-slot.depth c.loop-slot.commas c.len-count.result c.loop-slot.args (sym c.in_default.ensures) c.len-count.ensures.value c.loop-slot.invariant

use Rattle.std.proofs.Common.{◌∙◌, ◌++◌, ◌∷◌, [], ◌+◌, ℕ, refl, sym, ap}
use Rattle.cl_lex.proofs.Joining.{joining_none, joining_plain, joining_spliced, joining_more}
use Rattle.cl_lex.proofs.source.join.Goals as goal

pub loop-at-preserved-then-is_splice : goal.loop-at-preserved-then-is_splice
loop-at-preserved-then-is_splice c =
    joining_spliced c.args.text.now c.loop-at.at (c.loop-at.at + c.splice_width.result) c.loop-at.joined.values.items c.loop-at.joined.starts.items c.loop-at-test.true
    (sym c.is_splice.ensures ∙ c.if-is_splice.true) (ap (λ (n : ℕ). c.loop-at.at + n) c.splice_width.ensures) c.loop-at.invariant

pub loop-at-init : goal.loop-at-init
loop-at-init c =
    joining_none c.args.text.now 0 c.in_ok-with_capacity.field-0.items c.in_ok-with_capacity-2.field-0.items refl c.in_ok-with_capacity.ensures.items
    c.in_ok-with_capacity-2.ensures.items

pub loop-at-preserved-then-is_plain_at : goal.loop-at-preserved-then-is_plain_at
loop-at-preserved-then-is_plain_at c =
    joining_plain c.args.text.now c.loop-at.at c.loop-at.joined.values.items c.loop-at.joined.starts.items c.add.new.self.values.items c.add.new.self.starts.items
    c.loop-at-test.true (sym c.is_plain_at.ensures ∙ c.if-is_plain_at.true) c.in_ok-add.ensures.values c.in_ok-add.ensures.starts c.loop-at.invariant

pub loop-at-preserved : goal.loop-at-preserved
loop-at-preserved c =
    joining_more c.args.text.now c.loop-at.at (c.loop-at.at + c.width_at.result) c.loop-at.joined.values.items c.loop-at.joined.starts.items
    c.add-else-is_splice.new.self.values.items c.add-else-is_splice.new.self.starts.items c.loop-at-test.true (sym c.is_splice.ensures ∙ c.if-is_splice.false)
    (ap (λ (n : ℕ). c.loop-at.at + n) c.width_at.ensures)
    (c.in_ok-add-2.ensures.values ∙ ap (λ (v : ℕ). c.loop-at.joined.values.items ++ v ∷ []) c.value_at.ensures) c.in_ok-add-2.ensures.starts c.loop-at.invariant

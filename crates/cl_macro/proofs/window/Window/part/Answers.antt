use Rattle.std.proofs.Common.{◌≡◌, ◌+◌, ◌-◌, ◌≤◌, ap, sym, ◌∙◌, arith, length}
use Rattle.std.specs.Prelude.{slice_range}
use Rattle.cl_macro.proofs.Windows.{range_long, range_range}
use Rattle.cl_macro.proofs.window.Window.part.Goals as goal

pub overflow_add-result : goal.overflow_add-result
overflow_add-result c =
    let n : length c.args.self.now ≡ c.self.inside.to - c.self.inside.from = ap length (sym c.self.view_is) ∙ range_long c.self.inside.segment c.self.inside.from c.self.inside.to c.self.invariant.0 c.self.invariant.1 in
    omega (arith, n, c.requires.order, c.requires.within, c.self.invariant.0, c.self.invariant.1, c.len-most.ensures.value, c.len-most.ensures.room)

pub overflow_add-result-2 : goal.overflow_add-result-2
overflow_add-result-2 c =
    let n : length c.args.self.now ≡ c.self.inside.to - c.self.inside.from = ap length (sym c.self.view_is) ∙ range_long c.self.inside.segment c.self.inside.from c.self.inside.to c.self.invariant.0 c.self.invariant.1 in
    omega (arith, n, c.requires.within, c.self.invariant.0, c.self.invariant.1, c.len-most.ensures.value, c.len-most.ensures.room)

pub returns : goal.returns
returns c =
    let n : length c.args.self.now ≡ c.self.inside.to - c.self.inside.from = ap length (sym c.self.view_is) ∙ range_long c.self.inside.segment c.self.inside.from c.self.inside.to c.self.invariant.0 c.self.invariant.1 in
    let h : c.args.to ≤ c.self.inside.to - c.self.inside.from = omega (arith, n, c.requires.within) in
    ap (λ ws. slice_range ws (c.self.inside.from + c.args.from) (c.self.inside.from + c.args.to)) c.in_ok-segment.ensures
    ∙ range_range c.self.inside.segment c.self.inside.from c.self.inside.to c.args.from c.args.to c.requires.order h
    ∙ ap (λ ws. slice_range ws c.args.from c.args.to) c.self.view_is

use Rattle.std.proofs.Common.{◌≡◌, ◌+◌, ◌-◌, ap, sym, ◌∙◌, arith, length, drop}
use Rattle.cl_macro.specs.Turns.{close_at}
use Rattle.cl_macro.proofs.Windows.{group_cut, group_is, range_long}
use Rattle.cl_macro.proofs.window.Window.group.Goals as goal

pub overflow_add-first : goal.overflow_add-first
overflow_add-first c =
    let n : length c.args.self.now ≡ c.self.inside.to - c.self.inside.from = ap length (sym c.self.view_is) ∙ range_long c.self.inside.segment c.self.inside.from c.self.inside.to c.self.invariant.0 c.self.invariant.1 in
    omega (arith, n, c.if-i-count.false, c.len-count.ensures.value, c.self.invariant.0, c.self.invariant.1, c.len-most.ensures.value, c.len-most.ensures.room)

pub overflow_add-first-2 : goal.overflow_add-first-2
overflow_add-first-2 c =
    let n : length c.args.self.now ≡ c.self.inside.to - c.self.inside.from = ap length (sym c.self.view_is) ∙ range_long c.self.inside.segment c.self.inside.from c.self.inside.to c.self.invariant.0 c.self.invariant.1 in
    omega (arith, n, c.if-i-count.false, c.len-count.ensures.value, c.self.invariant.0, c.self.invariant.1, c.len-most.ensures.value, c.len-most.ensures.room)

pub overflow_add-first-3 : goal.overflow_add-first-3
overflow_add-first-3 c =
    let n : length c.args.self.now ≡ c.self.inside.to - c.self.inside.from = ap length (sym c.self.view_is) ∙ range_long c.self.inside.segment c.self.inside.from c.self.inside.to c.self.invariant.0 c.self.invariant.1 in
    omega (arith, n, c.if-i-count.false, c.len-count.ensures.value, c.self.invariant.0, c.self.invariant.1, c.len-most.ensures.value, c.len-most.ensures.room, c.in_ok-inside.ensures.room)

pub returns-then-first-inside : goal.returns-then-first-inside
returns-then-first-inside c = group_cut c.self.inside.segment c.self.inside.from c.self.inside.to c.args.i c.in_ok-inside.inside c.in_ok-inside.ensures.value c.if-first-inside.true
    ∙ ap (λ ws. close_at 0 (drop (c.args.i + 1) ws)) c.self.view_is

pub returns : goal.returns
returns c = group_is c.self.inside.segment c.self.inside.from c.self.inside.to c.args.i c.in_ok-inside.inside c.in_ok-inside.ensures.value c.if-first-inside.false
    ∙ ap (λ ws. close_at 0 (drop (c.args.i + 1) ws)) c.self.view_is

use Rattle.std.proofs.Common.{◌≡◌, ◌≤◌, List, length, map, sym, ap, ◌∙◌, arith}
use Rattle.std.proofs.lemmas.List.{take_all}
use Rattle.cl_types.specs.declared.expressions.TypedExpr.TheFolds.{fold_out-TypedExpr}
use Rattle.cl_types.specs.declared.expressions.TypedExpr.TheViews.{out-TypedExpr}
use Rattle.cl_layout.specs.declared.layout.Layout.{Layout}
use Rattle.cl_layout.specs.declared.reading.Reading.{Reading}
use Rattle.cl_layout.specs.Constants.{asked_layout, read, reading, reading_by}
use Rattle.cl_layout.proofs.constants.+reading_of.Goals as goal

pub returns : goal.returns
returns g t c = λ layouts are.
    let invariant = c.loop-part.invariant layouts are in
    let over : length c.as_slice-part-items.result.now ≤ c.loop-part.part-index = omega (arith, c.loop-part-test.false) in
    let parts : c.as_slice.result.now ≡ map (reading layouts) (out-TypedExpr c.args.e.now).parts =
    c.as_slice.ensures.value ∙ invariant ∙ ap (map (reading layouts)) (take_all c.loop-part.part-index c.as_slice-part-items.result.now over ∙ c.as_slice-part-items.ensures.value) in
    c.read.ensures
    ∙ ap (λ (l : Layout). read (out-TypedExpr c.args.e.now).op (out-TypedExpr c.args.e.now).operand l c.as_slice.result.now) (c.in_ok-layout.ensures layouts are)
    ∙ ap (λ (ps : List Reading). read (out-TypedExpr c.args.e.now).op (out-TypedExpr c.args.e.now).operand (asked_layout layouts (out-TypedExpr c.args.e.now).op) ps) parts
    ∙ sym (fold_out-TypedExpr Reading (reading_by layouts) c.args.e.now)

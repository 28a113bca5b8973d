use Rattle.std.proofs.Common.{◌++◌, List, ap, ◌∙◌, sym, not, ◌&&◌, cond, drop}
use Rattle.std.specs.Prelude.{Option, option_to_list}
use Rattle.cl_tree.specs.declared.scope.Change.{Change}
use Rattle.cl_tree.specs.declared.scope.Frame.{Frame}
use Rattle.cl_tree.specs.Scopes.{is_outermost}
use Rattle.cl_tree.proofs.Frames.{closed_is}
use Rattle.cl_tree.proofs.scope.closed.Goals as goal

pub returns-in_ok-outer-in-Some : goal.returns-in_ok-outer-in-Some
returns-in_ok-outer-in-Some c =
    let s = c.args.scope in
    let keep = c.keeps-keep.result in
    let kept = c.in-Some.frame.kept in
    rw c.had_list-had.ensures
    (closed_is s c.pop.new.self c.in_ok-outer-in-Some.outer c.in-Some.frame c.in_ok-changes-in-Some.changes c.in_ok-aside-in-Some.aside keep
    (sym c.in_ok-frames.ensures ∙ c.pop.ensures.items ∙ ap (λ (o : Option Frame). c.pop.new.self ++ option_to_list o) c.in-Some.is)
    c.in_ok-outer-in-Some.ensures c.in_ok-changes-in-Some.ensures
    (c.keeps-keep.ensures ∙ ap (λ (fs : List Frame). is_outermost fs && not s.listed) c.as_slice.ensures.value)
    (c.in_ok-aside-in-Some.ensures ∙ ap (λ (cs : List Change). cond keep (drop kept cs) s.aside) c.as_slice-in-Some.ensures.value))

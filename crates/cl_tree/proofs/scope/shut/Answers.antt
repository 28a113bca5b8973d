use Rattle.std.proofs.Common.{◌++◌, ap, ◌∙◌, sym}
use Rattle.std.specs.Prelude.{Option, option_to_list}
use Rattle.cl_tree.specs.declared.scope.Frame.{Frame}
use Rattle.cl_tree.proofs.Frames.{shut_is}
use Rattle.cl_tree.proofs.scope.shut.Goals as goal

pub returns-in_ok-outer-in-Some : goal.returns-in_ok-outer-in-Some
returns-in_ok-outer-in-Some c =
    shut_is c.args.scope c.pop.new.self c.in_ok-outer-in-Some.outer c.in-Some.frame
    (sym c.in_ok-frames.ensures ∙ c.pop.ensures.items ∙ ap (λ (o : Option Frame). c.pop.new.self ++ option_to_list o) c.in-Some.is)
    c.in_ok-outer-in-Some.ensures

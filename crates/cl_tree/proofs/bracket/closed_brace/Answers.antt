use Rattle.std.proofs.Common.{◌++◌, ap, ◌∙◌}
use Rattle.std.specs.Prelude.{Option, option_to_list}
use Rattle.cl_tree.specs.declared.bracket.Brace.{Brace}
use Rattle.cl_tree.specs.Brackets.{seen}
use Rattle.cl_tree.proofs.Frames.{brace_is}
use Rattle.cl_tree.proofs.bracket.closed_brace.Goals as goal

pub returns-in_ok-partners-in-Some : goal.returns-in_ok-partners-in-Some
returns-in_ok-partners-in-Some c =
    brace_is (seen c.args.pairs) c.pop.new.self c.in-Some.brace c.truncate.new.self c.in_ok-partners-in-Some.partners.items
    (c.pop.ensures.items ∙ ap (λ (o : Option Brace). c.pop.new.self ++ option_to_list o) c.in-Some.is) c.truncate.ensures c.in_ok-partners-in-Some.ensures

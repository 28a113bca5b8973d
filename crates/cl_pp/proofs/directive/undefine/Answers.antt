use Rattle.std.proofs.Common.{[], ◌∷◌, ◌++◌, None, ◌∙◌}
use Rattle.cl_pp.proofs.Events.{kept_event}
use Rattle.cl_pp.proofs.directive.undefine.Goals as goal

pub returns-clause-keeps : goal.returns-clause-keeps
returns-clause-keeps c = λ macros numbers start k.
    kept_event start c.args.table.now c.undef.new.self c.args.made.now.done _ c.args.name.now None k
    (c.in_ok-push.ensures.ok ∙ (λ i. (c.in_ok-look.ensures.done i).events ++ record { name = c.in_ok-name.ensures i; set = None } ∷ [])) c.in_ok-undef.ensures.ok

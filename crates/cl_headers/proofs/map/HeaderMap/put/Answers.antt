use Rattle.std.proofs.Common.{ap, ◌∙◌}
use Rattle.std.specs.BTreeMap.{insert_entry}
use Rattle.cl_headers.proofs.Put.{still_put, puts}
use Rattle.cl_headers.proofs.Row.{order}
use Rattle.cl_headers.proofs.map.HeaderMap.put.Goals as goal

pub invariant_of-self : goal.invariant_of-self
invariant_of-self c =
    still_put c.args.path c.args.known c.self.inside.tree c.in_ok-self-inside.field-0 c.requires c.self.invariant
    (c.in_ok-self-inside.ensures ∙ ap (λ e. insert_entry order c.self.inside.tree e.0 e.1) c.in_ok-entry.ensures.ok)

pub returns-clause-puts : goal.returns-clause-puts
returns-clause-puts c =
    puts c.args.path c.args.known c.args.self.now c.in_ok-self-inside.field-0
    (c.in_ok-self-inside.ensures ∙ ap (λ e. insert_entry order c.self.inside.tree e.0 e.1) c.in_ok-entry.ensures.ok ∙ ap (λ es. insert_entry order es c.args.path c.args.known) c.self.view_is)

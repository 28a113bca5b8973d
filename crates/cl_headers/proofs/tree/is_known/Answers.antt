use Rattle.std.proofs.Common.{sym, ap, ◌∙◌}
use Rattle.std.specs.Option.{option_copied}
use Rattle.cl_headers.specs.Headers.{known_at}
use Rattle.cl_headers.proofs.Within.{known_if, known_not}
use Rattle.cl_headers.proofs.tree.is_known.Goals as goal

pub returns-in-Some : goal.returns-in-Some
returns-in-Some c =
    known_if (known_at c.args.tree.now c.args.entry.now.0) c.in-Some.known.now c.args.entry.now.1 (sym c.get.ensures ∙ ap option_copied c.in-Some.is) c.eq.result c.eq.ensures

pub returns-in-None : goal.returns-in-None
returns-in-None c = known_not (known_at c.args.tree.now c.args.entry.now.0) c.args.entry.now.1 (sym c.get.ensures ∙ ap option_copied c.in-None.is)

use Rattle.std.proofs.Common.{◌≡◌, sym, ◌∙◌, true, rules}
use Rattle.cl_scope.proofs.Begun.{has_entity}
use Rattle.cl_scope.proofs.asking.base_entity.Goals as goal

pub entity-requires : goal.entity-requires
entity-requires g c = has_entity (g.B.Base.holds c.args.base.now) c.args.no.0 (sym c.in_ok-begins.ensures ∙ search rules)

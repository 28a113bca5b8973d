use Rattle.std.proofs.Common.{◌≡◌, ◌∙◌, ap, sym, rules, true, false, if◌then◌else◌, Bool}
use Rattle.cl_scope.specs.Steps.{World, left, is_content}
use Rattle.cl_scope.specs.Trail.{ended}
use Rattle.cl_scope.proofs.Before.{left_is}
use Rattle.cl_scope.proofs.scopes.Scopes.leave.Goals as goal

pub returns-then-not-is_content : goal.returns-then-not-is_content
returns-then-not-is_content g c =
    let w : World = record { base = g.B.Base.holds c.self.inside.base.now; made = c.self.inside.made; levels = c.self.inside.levels; trail = c.self.inside.names } in
    let scope : is_content c.in-Some.within.kind ≡ false = search rules in
    left_is w c.pop.new.self c.in-Some.within c.leave.new.self c.in-Some.ensures.items
    (c.leave.ensures ∙ sym (ap (λ (b : Bool). if b then c.self.inside.names else ended c.self.inside.names) scope)) ∙ ap left c.self.view_is

pub returns-else-not-is_content : goal.returns-else-not-is_content
returns-else-not-is_content g c =
    let w : World = record { base = g.B.Base.holds c.self.inside.base.now; made = c.self.inside.made; levels = c.self.inside.levels; trail = c.self.inside.names } in
    let content : is_content c.in-Some.within.kind ≡ true = search rules in
    left_is w c.pop.new.self c.in-Some.within c.self.inside.names c.in-Some.ensures.items
    (sym (ap (λ (b : Bool). if b then c.self.inside.names else ended c.self.inside.names) content)) ∙ ap left c.self.view_is

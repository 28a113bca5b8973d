use Rattle.std.proofs.Common.{◌≡◌, false, rules}
use Rattle.cl_headers.proofs.Within.{same_if, same_not}
use Rattle.cl_headers.proofs.map.HeaderMap.same.Goals as goal

pub returns-then-not-is_within : goal.returns-then-not-is_within
returns-then-not-is_within c =
    let no : c.is_within.result ≡ false = search rules in
    rw (← c.self.view_is, ← c.other.view_is) (same_not c.self.inside.tree c.other.inside.tree c.self.invariant.ordered c.is_within.result c.is_within.ensures.1 no)

pub returns : goal.returns
returns c =
    let within = c.is_within.ensures.0 (search rules) in
    rw (← c.self.view_is, ← c.other.view_is) (same_if c.self.inside.tree c.other.inside.tree c.self.invariant.ordered c.other.invariant.ordered within c.is_within-2.result c.is_within-2.ensures)

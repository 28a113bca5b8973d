use Rattle.std.proofs.Common.{◌≡◌, refl, sym, ◌∙◌, true, false}
use Rattle.std.specs.Prelude.{Some, None}
use Rattle.cl_expr.specs.code.Table.{turn, turning, is_named}
use Rattle.cl_expr.proofs.places.turn.Goals as goal

pub returns-in_default : goal.returns-in_default
unfolding turn
returns-in_default c = let e : turning c.args.place ≡ None = sym c.turning.ensures ∙ c.in_default.is in rw e refl

pub returns-then-named : goal.returns-then-named
unfolding turn
returns-then-named c =
    let e : turning c.args.place ≡ Some c.in-Some.ways = sym c.turning.ensures ∙ c.in-Some.is in
    let n : is_named c.args.part ≡ true = sym c.is_named-named.ensures ∙ c.if-named.true in
    rw (e, n) refl

pub returns-else-named : goal.returns-else-named
unfolding turn
returns-else-named c =
    let e : turning c.args.place ≡ Some c.in-Some.ways = sym c.turning.ensures ∙ c.in-Some.is in
    let n : is_named c.args.part ≡ false = sym c.is_named-named.ensures ∙ c.if-named.false in
    rw (e, n) refl

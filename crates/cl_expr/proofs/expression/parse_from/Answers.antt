use Rattle.std.proofs.Common.{◌≡◌, ◌∙◌, ap}
use Rattle.std.specs.Prelude.{Some}
use Rattle.cl_tree.specs.Derives.{end}
use Rattle.cl_expr.proofs.Bridge.{to_derives, of_derives}
use Rattle.cl_expr.proofs.Climb.{whole_found, whole_only}
use Rattle.cl_expr.proofs.expression.parse_from.Goals as goal

pub returns-then-found-tokens-clause-found : goal.returns-then-found-tokens-clause-found
returns-then-found-tokens-clause-found c =
    to_derives c.args.goal c.args.tokens.now c.args.scope.now c.args.from c.in-Some.found.tree c.in-Some.found.scope
    (whole_found c.args.tokens.now c.args.scope.now c.args.goal c.args.from c.in-Some.found (rw c.in-Some.is at c.in_ok-found.ensures) c.if-found-tokens.true)

pub returns-then-found-tokens-clause-only : goal.returns-then-found-tokens-clause-only
returns-then-found-tokens-clause-only c =
    λ t w d. (let same = (whole_only c.args.tokens.now c.args.scope.now c.args.goal c.args.from _ t w (rw c.in-Some.is at c.in_ok-found.ensures)
    (of_derives c.args.goal c.args.tokens.now c.args.scope.now c.args.from t w d)).1 in (λ i. Some (record { tree = same.0 i; scope = same.2 i })))

pub returns-else-found-tokens-clause-only : goal.returns-else-found-tokens-clause-only
returns-else-found-tokens-clause-only c =
    λ t w d. (let same : c.in-Some.found.tree ≡ t = (whole_only c.args.tokens.now c.args.scope.now c.args.goal c.args.from _ t w (rw c.in-Some.is at c.in_ok-found.ensures)
    (of_derives c.args.goal c.args.tokens.now c.args.scope.now c.args.from t w d)).1.0 in absurd (c.if-found-tokens.false (ap end same ∙ d.to)))

pub returns-in_default-clause-only : goal.returns-in_default-clause-only
returns-in_default-clause-only c =
    λ t w d. absurd (whole_only c.args.tokens.now c.args.scope.now c.args.goal c.args.from _ t w (rw c.in_default.is at c.in_ok-found.ensures)
    (of_derives c.args.goal c.args.tokens.now c.args.scope.now c.args.from t w d)).1

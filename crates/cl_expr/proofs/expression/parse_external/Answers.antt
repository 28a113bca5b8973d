use Rattle.std.proofs.Common.{inl, inr}
use Rattle.cl_tree.specs.declared.nonterminal.Nonterminal.TheVariants as nt
use Rattle.cl_expr.proofs.External.{braced, unbraced, found_as, only_as}
use Rattle.cl_expr.proofs.expression.parse_external.Goals as goal

pub returns-then-braced-clause-found : goal.returns-then-braced-clause-found
returns-then-braced-clause-found c = found_as nt.FunctionDefinition c.args.tokens.now c.args.scope.now c.args.from (λ t w d. inl d) c.parse_from.result c.parse_from.ensures.found

pub returns-else-braced-clause-found : goal.returns-else-braced-clause-found
returns-else-braced-clause-found c = found_as nt.Declaration c.args.tokens.now c.args.scope.now c.args.from (λ t w d. inr d) c.parse_from-else-braced.result c.parse_from-else-braced.ensures.found

pub returns-then-braced-clause-only : goal.returns-then-braced-clause-only
returns-then-braced-clause-only c =
    only_as nt.FunctionDefinition c.args.tokens.now c.args.scope.now c.args.from (λ t w d. braced c.args.tokens.now c.args.scope.now c.args.from t w (c.ends_with_brace-braced.ensures.yes c.if-braced.true) d)
    c.parse_from.result c.parse_from.ensures.only

pub returns-else-braced-clause-only : goal.returns-else-braced-clause-only
returns-else-braced-clause-only c =
    only_as nt.Declaration c.args.tokens.now c.args.scope.now c.args.from (λ t w d. unbraced c.args.tokens.now c.args.scope.now c.args.from t w (c.ends_with_brace-braced.ensures.no c.if-braced.false) d)
    c.parse_from-else-braced.result c.parse_from-else-braced.ensures.only

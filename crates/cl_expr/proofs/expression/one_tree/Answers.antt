use Rattle.cl_tree.specs.Brackets.{brackets}
use Rattle.cl_tree.specs.Lexemes.{lexemes}
use Rattle.cl_tree.specs.Sets.{has}
use Rattle.cl_tree.specs.Scopes.{empty}
use Rattle.cl_expr.proofs.Bridge.{of_derives}
use Rattle.cl_expr.proofs.Law.{one_whole}
use Rattle.cl_expr.proofs.External.{one_external}
use Rattle.cl_expr.proofs.expression.one_tree.Goals as goal

pub returns-clause-one : goal.returns-clause-one
returns-clause-one c = λ g names tokens t u a b. (
    let ts = lexemes (has names) (brackets tokens) tokens in
    (one_whole g ts empty 0 t u a.0 b.0 (of_derives g ts empty 0 t a.0 a.1) (of_derives g ts empty 0 u b.0 b.1)).0)

pub returns-clause-external : goal.returns-clause-external
returns-clause-external c = λ ts s at t u w x a b. one_external ts s at t u w x a b

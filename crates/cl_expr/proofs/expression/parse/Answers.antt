use Rattle.std.proofs.Common.{◌≡◌, List, ℕ, ap, ◌∙◌, subst}
use Rattle.std.specs.Prelude.{Some, IfOk}
use Rattle.cl_tree.specs.declared.lexeme.Lexeme.{Lexeme}
use Rattle.cl_tree.specs.declared.tree.Tree.{Tree}
use Rattle.cl_tree.specs.Brackets.{brackets}
use Rattle.cl_tree.specs.Lexemes.{lexemes}
use Rattle.cl_tree.specs.Sets.{has}
use Rattle.cl_tree.specs.Derives.{Spans}
use Rattle.cl_expr.proofs.expression.parse.Goals as goal

pub returns-clause-only : goal.returns-clause-only
returns-clause-only c =
    let e : c.as_slice-2.result.now ≡ lexemes (has c.args.typedefs.now) (brackets c.args.tokens.now) c.args.tokens.now
    = c.as_slice-2.ensures.value ∙ c.in_ok-all.ensures ∙ ap (λ (ps : List ℕ). lexemes (has c.args.typedefs.now) ps c.args.tokens.now) (c.as_slice.ensures.value ∙ c.in_ok-pairs.ensures) in
    subst (λ (ts : List Lexeme). IfOk c.whole_tree.result (λ tree. (t : Tree) → Spans c.args.goal ts t → tree ≡ Some t)) e c.whole_tree.ensures.only

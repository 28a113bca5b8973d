-- Where no `else` dangles.
use Rattle.std.proofs.Common.{◌≡◌, ℕ, List, ◌∙◌, ap, subst}
use Rattle.std.specs.Prelude.{Some}
use Rattle.cl_tree.specs.declared.class.Class.{Class}
use Rattle.cl_tree.specs.declared.class.Class.TheVariants as cl
use Rattle.cl_tree.specs.declared.lexeme.Lexeme.{Lexeme}
use Rattle.cl_tree.specs.declared.scope.Scope.{Scope}
use Rattle.cl_tree.specs.Scopes.{class_at}
use Rattle.cl_tree.specs.Derives.{Has}
use Rattle.cl_expr.specs.code.Table.{bars}
use Rattle.cl_expr.specs.code.Parses.{Enters}

module _ (cs : List Lexeme) (s : Scope) (q at : ℕ) where
  pub not_else : (class_at cs s at ≡ Some cl.Else → Has (bars q) cl.Else → ⊥) → (k : Class) → class_at cs s at ≡ Some k → Has (bars q) k → k ≡ cl.Else → ⊥
  not_else never k token bar same = never (token ∙ ap Some same) (subst (Has (bars q)) same bar)

  pub not_over : ((k : Class) → class_at cs s at ≡ Some k → Enters q k → (k ≡ cl.Else) × Has (bars q) k) → (class_at cs s at ≡ Some cl.Else → Has (bars q) cl.Else → ⊥) → (k : Class) → class_at cs s at ≡ Some k → Enters q k → ⊥
  not_over over never k token enters = (let o = over k token enters in not_else never k token o.1 o.0)

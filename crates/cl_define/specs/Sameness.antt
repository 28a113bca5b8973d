-- When a definition may follow another one of its name (N1570 6.10.3p1, p2).
use Rattle.std.specs.Prelude.{◌≡◌, List, map, drop}
use Rattle.cl_base.specs.declared.macros.Macro.{Macro}
use Rattle.cl_base.specs.declared.macros.BodyToken.{BodyToken}

-- two replacement lists are identical: the same number, order and spelling of tokens, and white space between the same
-- ones, where all white space is alike
pub record AreIdentical (xs ys : List BodyToken) : Type 0 where
  pub spelled : map (λ (t : BodyToken). t.text) xs ≡ map (λ (t : BodyToken). t.text) ys
  pub apart : map (λ (t : BodyToken). t.space) (drop 1 xs) ≡ map (λ (t : BodyToken). t.space) (drop 1 ys)

-- both are object-like, or both are function-like with the same number and spelling of parameters
pub record IsSame (a b : Macro) : Type 0 where
  pub params : a.params ≡ b.params
  pub variadic : a.variadic ≡ b.variadic
  pub lists : AreIdentical a.body b.body

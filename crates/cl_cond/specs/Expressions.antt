-- Conditions as trees (N1570 6.5, 6.6).
use Rattle.std.specs.Prelude.{◌≡◌, ℕ, ◌+◌, ◌≤◌, true, List, [], ◌∷◌, ◌++◌}
use Rattle.cl_const.specs.declared.operators.Operator.{Operator}
use Rattle.cl_const.specs.declared.operators.Operator.TheVariants as op
use Rattle.cl_cond.specs.declared.word.Class.{Class}
use Rattle.cl_cond.specs.declared.word.Class.TheVariants as class
use Rattle.cl_cond.specs.declared.word.Word.{Word}
use Rattle.cl_const.specs.Operators.{infix_level, is_prefix}

pub data Tree : Type 0 where
  leaf : Word → Tree
  parens : Word → Tree → Word → Tree
  unary : Word → Tree → Tree
  binary : Tree → Word → Tree → Tree
  choice : Tree → Word → Tree → Word → Tree → Tree

-- the tokens in order
abbrev pub words_of : Tree → List Word
words_of (leaf w) = w ∷ []
words_of (parens a t b) = a ∷ (words_of t ++ b ∷ [])
words_of (unary w t) = w ∷ words_of t
words_of (binary l w r) = words_of l ++ w ∷ words_of r
words_of (choice c q f k s) = words_of c ++ q ∷ (words_of f ++ k ∷ words_of s)

-- the operator that a token is; `!` is taken for one that is none
abbrev pub operator_of : Class → Operator
operator_of (class.Operator o) = o
operator_of _ = op.Not

abbrev pub IsOperand : Class → Type 0
IsOperand (class.Operand n) = Unit {0}
IsOperand _ = ⊥

abbrev pub IsPrefix : Class → Type 0
IsPrefix (class.Operator o) = is_prefix o ≡ true
IsPrefix _ = ⊥

-- the level between two operands, or 0
abbrev pub level_of : Class → ℕ
level_of (class.Operator o) = infix_level o
level_of _ = 0

-- the tree is an expression of this level or of one that binds tighter: 1 is the conditional-expression (6.5.15), 2 the
-- logical-OR-expression (6.5.14) and so on up to 11, the multiplicative-expression (6.5.5), and 12 the unary-expression
-- (6.5.3). In parentheses, and between `?` and `:`, stands an expression, which has no comma and no assignment here (6.6p3).
abbrev pub IsAt : ℕ → Tree → Type 0
IsAt n (leaf w) = IsOperand w.class
IsAt n (parens a t b) = (a.class ≡ class.Open) × IsAt 1 t × (b.class ≡ class.Close)
IsAt n (unary w t) = (n ≤ 12) × IsPrefix w.class × IsAt 12 t
IsAt n (binary l w r) = (2 ≤ level_of w.class) × (n ≤ level_of w.class) × IsAt (level_of w.class) l × IsAt (level_of w.class + 1) r
IsAt n (choice c q f k s) = (n ≤ 1) × IsAt 2 c × (q.class ≡ class.Question) × IsAt 1 f × (k.class ≡ class.Colon) × IsAt 1 s

-- the tree is one of an integer constant expression (6.6) of these tokens
pub record Reads (words : List Word) (tree : Tree) : Type 0 where
  pub at : IsAt 1 tree
  pub yields : words_of tree ≡ words

-- the tokens are one
abbrev pub IsExpression : List Word → Type 0
IsExpression words = (tree : Tree) × Reads words tree

-- some tokens make them one
abbrev pub GoesOn : List Word → Type 0
GoesOn front = (more : List Word) × IsExpression (front ++ more)

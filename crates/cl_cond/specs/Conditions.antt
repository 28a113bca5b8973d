-- What a condition comes to (N1570 6.10.1, 6.6).
use Rattle.std.specs.Prelude.{◌≡◌, ◌⊎◌, ℕ, ◌+◌, ◌<◌, ◌≤◌, Bool, List, take, length}
use Rattle.cl_const.specs.Numbers.{as_unsigned}
use Rattle.cl_cond.specs.declared.eval.IfValue.{IfValue}
use Rattle.cl_cond.specs.declared.eval.IfValue.TheVariants as if_value
use Rattle.cl_cond.specs.declared.word.Word.{Word}
use Rattle.cl_cond.specs.Expressions.{Tree, Reads, IsExpression, GoesOn}
use Rattle.cl_cond.specs.Values.{Worth, number, fails, unsigned_of, worth_of}

-- a value of this type, in 64 bits, or the token that fails first
abbrev pub answer : Bool → Worth → IfValue
answer unsigned (number n) = if_value.Value (as_unsigned n) unsigned
answer unsigned (fails place) = if_value.BadIf place

-- the first token that no integer constant expression has after those before it; the number of tokens, where one is
-- missing at the end
pub record IsMisfit (words : List Word) (place : ℕ) : Type 0 where
  pub within : place ≤ length words
  pub goes_on : GoesOn (take place words)
  pub ends : place < length words → ¬ GoesOn (take (place + 1) words)
  pub none : ¬ IsExpression words

-- what the tokens come to
abbrev pub EvaluatesTo : List Word → IfValue → Type 0
EvaluatesTo words value = ((tree : Tree) × Reads words tree × (value ≡ answer (unsigned_of tree) (worth_of tree))) ⊎ ((place : ℕ) × IsMisfit words place × (value ≡ if_value.BadIf place))

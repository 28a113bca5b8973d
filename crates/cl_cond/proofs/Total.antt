-- Every condition has a value or a place at fault.
use Rattle.std.proofs.Common.{◌≡◌, ℕ, zero, suc, ◌+◌, ◌<◌, List, [], false, refl, Option, Some, None, arith, length, take, get_or}
use Rattle.cl_base.specs.declared.token.PpToken.{PpToken}
use Rattle.cl_base.specs.declared.token.Kind.TheVariants as kind
use Rattle.cl_cond.specs.declared.eval.IfValue.{IfValue}
use Rattle.cl_cond.specs.declared.eval.IfValue.TheVariants.{BadIf}
use Rattle.cl_cond.specs.declared.word.Word.{Word}
use Rattle.cl_cond.specs.code.Machine.{State, finished, step, waiting}
use Rattle.cl_cond.specs.Words.{class_of, words_from}
use Rattle.cl_cond.specs.Conditions.{EvaluatesTo}
use Rattle.cl_cond.specs.code.Outcomes.{answer_of}
use Rattle.cl_cond.proofs.Running.{go}
use Rattle.cl_cond.proofs.Deciding.{misfit, at_end, goes_more}

abbrev HasValue : List PpToken → Type 0
HasValue tokens = (value : IfValue) × EvaluatesTo (words_from 0 tokens) value

abbrev no_token : PpToken
no_token = record { kind = kind.Other; text = []; space = false; spell = None; at = record { file = 0; from = 0; to = 0 } }

abbrev word_at : List PpToken → ℕ → Word
word_at tokens at = record { place = at; class = class_of (get_or tokens at no_token) }

-- the value by the next step, where those after it are known
next_by : (tokens : List PpToken) (at : ℕ) (s : State) (o : Option State) → at < length tokens → go (waiting []) (words_from 0 (take at tokens)) ≡ Some s
    → step s (word_at tokens at) ≡ o → ((more : State) → go (waiting []) (words_from 0 (take (at + 1) tokens)) ≡ Some more → HasValue tokens) → HasValue tokens
next_by tokens at s None l h f later = (BadIf at, misfit tokens at no_token s l h f)
next_by tokens at s (Some more) l h f later = later more (goes_more tokens at no_token s (Some more) l h f)

from_here : (tokens : List PpToken) (n at : ℕ) (s : State) → n + at ≡ length tokens → go (waiting []) (words_from 0 (take at tokens)) ≡ Some s → HasValue tokens
from_here tokens zero at s e h =
    (answer_of (finished s) (length tokens), at_end tokens at s (finished s) (answer_of (finished s) (length tokens)) (omega arith) (omega arith) h refl refl)
from_here tokens (suc n) at s e h = next_by tokens at s (step s (word_at tokens at)) (omega arith) h refl (λ more g. from_here tokens n (at + 1) more (omega arith) g)

pub some_value : (tokens : List PpToken) → (value : IfValue) × EvaluatesTo (words_from 0 tokens) value
some_value tokens = from_here tokens (length tokens) 0 (record { stack = []; focus = None }) (omega arith) refl

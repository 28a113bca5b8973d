-- Where lines and tokens lie.
use Rattle.std.specs.Prelude.{◌≡◌, ◌⊎◌, ℕ, ◌==◌, ◌<◌, ◌≤◌, List, [], ◌∷◌, filter}
use Rattle.cl_base.specs.declared.token.Span.{Span}
use Rattle.cl_base.specs.declared.token.Token.{Token}
use Rattle.cl_base.specs.declared.token.PpToken.{PpToken}
use Rattle.cl_cond.specs.declared.mark.Mark.{Mark}
use Rattle.cl_pp.specs.declared.done.PpDone.{PpDone}
use Rattle.cl_pp.specs.declared.done.PpAnswer.{PpAnswer}
use Rattle.cl_pp.specs.declared.done.PpAnswer.TheVariants as answer

-- between two token numbers one line follows the other
abbrev pub MarksLie : ℕ → ℕ → List Mark → Type 0
MarksLie at count [] = at ≤ count
MarksLie at count (mark ∷ marks) = (at ≤ mark.from) × (mark.from ≤ mark.to) × MarksLie mark.to count marks

-- none begins past this byte
abbrev pub Within : ℕ → List Token → Type 0
Within end [] = Unit {0}
Within end (token ∷ tokens) = (token.from ≤ end) × Within end tokens

-- a token stands where the one before it does, since one invocation made both, or behind it in the same file
abbrev pub Follows : Span → Span → Type 0
Follows before at = (at ≡ before) ⊎ ((at.file ≡ before.file) × (before.to ≤ at.from))

-- the tokens that stand in the document, which is the file 0
abbrev pub in_document : List PpToken → List PpToken
in_document tokens = filter (λ token. token.at.file == 0) tokens

-- before the document
abbrev pub nowhere : Span
nowhere = record { file = 0; from = 0; to = 0 }

-- from one place to a byte of its file the tokens follow one another, and none is empty
abbrev pub InOrder : Span → ℕ → List PpToken → Type 0
InOrder before end [] = before.to ≤ end
InOrder before end (token ∷ tokens) = Follows before token.at × (token.at.from < token.at.to) × InOrder token.at end tokens

-- it holds of what preprocessing gives, if it needs no header
abbrev pub IfDone : (PpDone → Type 0) → PpAnswer → Type 0
IfDone holds (answer.Done done) = holds done
IfDone holds (answer.Need path) = Unit {0}

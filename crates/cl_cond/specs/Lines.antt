-- The lines of a file of these tokens, and what each is to conditional inclusion (N1570 6.10).
use Rattle.std.specs.Prelude.{◌≡◌, ℕ, ◌+◌, ◌<◌, ◌≤◌, true, false, ◌&&◌, if◌then◌else◌, nat_lt, List, [], ◌∷◌, length, slice_index_or, codes}
use Rattle.cl_base.specs.declared.token.Token.{Token}
use Rattle.cl_base.specs.declared.token.Kind.TheVariants.{Other}
use Rattle.cl_base.specs.Tokens.{is_hash, is_ident, spells}
use Rattle.cl_cond.specs.declared.mark.Condition.TheVariants as condition
use Rattle.cl_cond.specs.declared.mark.Part.{Part}
use Rattle.cl_cond.specs.declared.mark.Part.TheVariants as part
use Rattle.cl_cond.specs.declared.mark.Mark.{Mark}

abbrev pub no_token : Token
no_token = record { kind = Other; text = []; from = 0; to = 0; space = false; first = false }

-- the token at an index
abbrev pub token_at : List Token → ℕ → Token
token_at tokens i = slice_index_or tokens i no_token

-- what a directive of this name is
abbrev pub word_part : List ℕ → Part
word_part word =
    if spells word (codes "if") then part.Branch condition.If
    else if spells word (codes "ifdef") then part.Branch condition.IfDef
    else if spells word (codes "ifndef") then part.Branch condition.IfNDef
    else if spells word (codes "elif") then part.Branch condition.Elif
    else if spells word (codes "else") then part.Branch condition.Else
    else if spells word (codes "endif") then part.End
    else part.Line

abbrev pub named : Token → Part
named name = if is_ident name.kind then word_part name.text else part.Line

-- what the line of the tokens from one index up to another is
abbrev pub part_at : List Token → ℕ → ℕ → Part
part_at tokens from to = if is_hash (token_at tokens from) && nat_lt (from + 1) to then named (token_at tokens (from + 1)) else part.Line

-- a line goes from its first token up to the next token that is the first of its line, or the last token
pub record EndsLine (tokens : List Token) (from to : ℕ) : Type 0 where
  pub some : from < to
  pub within : to ≤ length tokens
  pub goes : (i : ℕ) → from < i → i < to → (token_at tokens i).first ≡ false
  pub ends : to < length tokens → (token_at tokens to).first ≡ true

-- the line that begins with this token
pub record IsLine (tokens : List Token) (at : ℕ) (line : Mark) : Type 0 where
  pub from : line.from ≡ at
  pub ends : EndsLine tokens at line.to
  pub part : line.part ≡ part_at tokens at line.to

-- the lines from a token on: one follows the other up to the last token
abbrev pub Lines : List Token → ℕ → List Mark → Type 0
Lines tokens at [] = at ≡ length tokens
Lines tokens at (line ∷ lines) = (at < length tokens) × IsLine tokens at line × Lines tokens line.to lines

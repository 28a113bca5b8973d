-- The tokens of a condition (N1570 6.10.1p1): `defined NAME` and `defined ( NAME )` are taken first, and are 1 where the
-- name is a macro, and else 0.
use Rattle.std.specs.Prelude.{ℕ, suc, ◌-◌, ◌==◌, ◌&&◌, ◌||◌, not, nat_lt, List, [], ◌∷◌, ◌++◌, Bool, false, if◌then◌else◌, Option, Some, None, is_some, slice_get, codes}
use Rattle.cl_base.specs.declared.token.Kind.TheVariants as kind
use Rattle.cl_base.specs.declared.token.Span.{Span}
use Rattle.cl_base.specs.declared.token.Token.{Token}
use Rattle.cl_base.specs.declared.token.PpToken.{PpToken}
use Rattle.cl_base.specs.declared.macros.Macro.{Macro}
use Rattle.cl_base.specs.Tokens.{is_ident, is_word, spells}

-- a place in the file of this number
abbrev pub span_at : ℕ → ℕ → ℕ → Span
span_at file from to = record { file = file; from = from; to = to }

-- a token where it is written
abbrev pub spread : ℕ → Token → PpToken
spread file token = record { kind = token.kind; text = token.text; space = token.space; spell = Some (span_at file token.from token.to); at = span_at file token.from token.to }

-- how many tokens are the operand of a `defined` before them: a name, or a name in parentheses; 0 where none stands there
abbrev pub closed_len : Bool → List Token → ℕ
closed_len named [] = 0
closed_len named (c ∷ ts) = if named && spells c.text (codes ")") then 3 else 0

abbrev pub named_len : List Token → ℕ
named_len [] = 0
named_len (b ∷ ts) = closed_len (is_ident b.kind) ts

abbrev pub operand_len : List Token → ℕ
operand_len [] = 0
operand_len (a ∷ ts) = if is_ident a.kind then 1 else if spells a.text (codes "(") then named_len ts else 0

-- and how many follow this token that belong to it
abbrev pub taken : Token → List Token → ℕ
taken token ts = if is_word token (codes "defined") then operand_len ts else 0

-- Looking back from a place, with the tokens before it, the last first, and those behind it: whether one of those before is
-- a `defined` whose operand goes on past so many tokens behind the place. A `defined` that stands in the operand of another
-- one is a name, and has none
abbrev pub goes_past : ℕ → List Token → List Token → Bool
goes_past n [] behind = false
goes_past n (token ∷ before) behind = (nat_lt n (taken token behind) && not (goes_past 0 before (token ∷ behind))) || goes_past (suc n) before (token ∷ behind)

-- the token that stands first behind the place is in the operand of a `defined`
abbrev pub is_in_operand : List Token → List Token → Bool
is_in_operand before behind = goes_past 0 before behind

-- what a token spells, if there is one
abbrev pub text_of : Option Token → List ℕ
text_of None = []
text_of (Some token) = token.text

-- the name in an operand
abbrev pub first_text : List Token → List ℕ
first_text [] = []
first_text (b ∷ ts) = b.text

abbrev pub operand_name : List Token → List ℕ
operand_name [] = []
operand_name (a ∷ ts) = if is_ident a.kind then a.text else first_text ts

-- where the last of so many tokens ends that follow this one
abbrev pub end_of : Option Token → ℕ → ℕ
end_of None to = to
end_of (Some token) to = token.to

abbrev pub end_after : Token → ℕ → List Token → ℕ
end_after token n ts = end_of (slice_get ts (n - 1)) token.to

abbrev pub digit : Bool → List ℕ
digit holds = if holds then codes "1" else codes "0"

-- a number in place of the token and those that belong to it
abbrev pub number_for : ℕ → Bool → Token → ℕ → List Token → PpToken
number_for file holds token n ts = record {
  kind = kind.Number;
  text = digit holds;
  space = token.space;
  spell = None;
  at = span_at file token.from (end_after token n ts);
}

module _ (file : ℕ) (macros : List ℕ → Option Macro) where
  abbrev pub replaced : Token → List Token → PpToken
  replaced token ts = if taken token ts == 0 then spread file token else number_for file (is_some (macros (operand_name ts))) token (taken token ts) ts

  -- what a token of a condition is there for: a number for a `defined` with its operand, else the token
  abbrev pub part_for : List Token → Token → List Token → List PpToken
  part_for before token ts = if is_in_operand before (token ∷ ts) then [] else replaced token ts ∷ []

  -- the tokens of a condition, where these stand before them, the last first
  abbrev pub decided_behind : List Token → List Token → List PpToken
  decided_behind before [] = []
  decided_behind before (token ∷ ts) = part_for before token ts ++ decided_behind (token ∷ before) ts

  abbrev pub decided : List Token → List PpToken
  decided tokens = decided_behind [] tokens

-- the name that is asked for by this token and those that follow it
abbrev pub asked_for : Token → List Token → List (List ℕ)
asked_for token ts = if taken token ts == 0 then [] else operand_name ts ∷ []

abbrev pub asked_by : List Token → Token → List Token → List (List ℕ)
asked_by before token ts = if is_in_operand before (token ∷ ts) then [] else asked_for token ts

-- the names that a condition asks for, where these tokens stand before, the last first
abbrev pub asked_behind : List Token → List Token → List (List ℕ)
asked_behind before [] = []
asked_behind before (token ∷ ts) = asked_by before token ts ++ asked_behind (token ∷ before) ts

abbrev pub asked : List Token → List (List ℕ)
asked tokens = asked_behind [] tokens

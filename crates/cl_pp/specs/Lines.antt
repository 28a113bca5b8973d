-- The lines of a file: their tokens, and what is wrong with their directives (N1570 6.10).
use Rattle.std.specs.Prelude.{ℕ, ◌-◌, ◌==◌, ◌&&◌, ◌||◌, not, List, [], ◌∷◌, ◌++◌, Bool, false, if◌then◌else◌, Option, Some, None, map, length, slice_get, slice_range, codes}
use Rattle.cl_base.specs.declared.token.Kind.{Kind}
use Rattle.cl_base.specs.declared.token.Kind.TheVariants as kind
use Rattle.cl_base.specs.declared.token.Span.{Span}
use Rattle.cl_base.specs.declared.token.Token.{Token}
use Rattle.cl_base.specs.declared.token.PpToken.{PpToken}
use Rattle.cl_base.specs.declared.token.Fault.{Fault}
use Rattle.cl_base.specs.declared.token.Diag.{Diag}
use Rattle.cl_cond.specs.declared.eval.IfValue.{IfValue}
use Rattle.cl_cond.specs.declared.eval.IfValue.TheVariants.{Value, BadIf}
use Rattle.cl_cond.specs.declared.mark.Mark.{Mark}
use Rattle.cl_base.specs.Tokens.{is_hash, is_word}
use Rattle.cl_pp.specs.Defined.{span_at, spread}

-- a fault in the file of this number
abbrev pub diag : ℕ → ℕ → ℕ → ℕ → Diag
diag file number from to = record { number = number; at = span_at file from to; name = None }

abbrev pub fault_at : ℕ → ℕ → Token → List Diag
fault_at file number token = diag file number token.from token.to ∷ []

abbrev pub spread_fault : ℕ → Fault → Diag
spread_fault file fault = diag file fault.number fault.from fault.to

-- the tokens of a line
abbrev pub line_of : List Token → Mark → List Token
line_of tokens mark = slice_range tokens mark.from mark.to

-- those behind its first two
abbrev pub rest_of : List Token → List Token
rest_of (hash ∷ name ∷ rest) = rest
rest_of _ = []

abbrev pub is_directive : List Token → Bool
is_directive [] = false
is_directive (token ∷ tokens) = is_hash token

abbrev pub spread_line : ℕ → List Token → List PpToken
spread_line file line = map (spread file) line

-- ---- what lexing tells

abbrev pub or_else : Option Fault → Option Fault → Option Fault
or_else None other = other
or_else (Some fault) other = Some fault

-- the one of these faults that begins at a byte
abbrev pub told : List Fault → ℕ → Option Fault
told [] at = None
told (fault ∷ faults) at = or_else (told faults at) (if fault.from == at then Some fault else None)

abbrev pub as_list : ℕ → Option Fault → List Diag
as_list file None = []
as_list file (Some fault) = spread_fault file fault ∷ []

-- the tokens of `#error` and `#pragma` aren't looked at
abbrev pub is_unread : Token → Bool
is_unread name = is_word name (codes "error") || is_word name (codes "pragma")

abbrev pub is_free_text : List Token → Bool
is_free_text (hash ∷ name ∷ rest) = is_hash hash && is_unread name
is_free_text _ = false

module _ (file : ℕ) (begins : ℕ → Option Fault) where
  -- an Other token has the fault that begins where it does (6.4p3)
  abbrev pub stray : Kind → Token → List Diag
  stray kind.Other token = as_list file (begins token.from)
  stray _ token = []

  abbrev pub strays : List Token → List Diag
  strays [] = []
  strays (token ∷ tokens) = stray token.kind token ++ strays tokens

  abbrev pub line_strays : List Token → List Diag
  line_strays line = if is_free_text line then [] else strays line

-- ---- directives

-- tokens behind a directive that is complete
abbrev pub extra : ℕ → List Token → List Diag
extra file [] = []
extra file (token ∷ tokens) = fault_at file 7 token

-- where the first of these tokens is written
abbrev pub place_of : ℕ → List Token → Span
place_of file [] = span_at file 0 0
place_of file (token ∷ tokens) = span_at file token.from token.to

-- a definition that is none, at its name
abbrev pub invalid : ℕ → List Token → List Diag
invalid file tokens = record { number = 18; at = place_of file tokens; name = None } ∷ []

-- a definition that differs from the one that stands, at its name
abbrev pub redefined : ℕ → List ℕ → List Token → List Diag
redefined file name tokens = record { number = 16; at = place_of file tokens; name = Some name } ∷ []

-- ---- faults among tokens that are made

abbrev pub token_span : ℕ → Option Token → Span
token_span file (Some token) = span_at file token.from token.to
token_span file None = span_at file 0 0

-- the token at a place, and the line's last one where there is none
abbrev pub span_or : ℕ → Option PpToken → List Token → Span
span_or file (Some token) line = token.at
span_or file None line = token_span file (slice_get line (length line - 1))

abbrev pub fault_in : ℕ → ℕ → List PpToken → ℕ → List Token → List Diag
fault_in file number made place line = record { number = number; at = span_or file (slice_get made place) line; name = None } ∷ []

abbrev pub bad_if : ℕ → IfValue → List PpToken → List Token → List Diag
bad_if file (BadIf place) made line = fault_in file 15 made place line
bad_if file (Value bits unsigned) made line = []

abbrev pub bad_line : ℕ → Option ℕ → List PpToken → List Token → List Diag
bad_line file (Some place) made line = fault_in file 23 made place line
bad_line file None made line = []

-- a condition that is at fault counts 0
abbrev pub is_true : IfValue → Bool
is_true (Value bits unsigned) = not (bits == 0)
is_true (BadIf place) = false

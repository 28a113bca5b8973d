-- Tokens as the grammar reads them.
use Rattle.std.specs.Prelude.{ℕ, ◌+◌, List, [], ◌∷◌, Option, Some, None, ◌++◌, slice_get, slice_range, length, Bool, false, ◌||◌, nat_eq, codes}
use Rattle.std.specs.Cmp.Lexicographic.{pointwise}
use Rattle.cl_base.specs.declared.token.PpToken.{PpToken}
use Rattle.cl_tree.specs.declared.class.Class.TheVariants as cl
use Rattle.cl_tree.specs.declared.shape.Sort.{Sort}
use Rattle.cl_tree.specs.declared.shape.Raw.{Raw}
use Rattle.cl_tree.specs.declared.shape.Raw.TheVariants as raw
use Rattle.cl_tree.specs.declared.lexeme.Lexeme.{Lexeme}
use Rattle.cl_tree.specs.Brackets.{partner_by}
use Rattle.cl_tree.specs.Shapes.{shape_of}
use Rattle.cl_tree.specs.Spellings.{sort, sort_of}

abbrev pub sort_of_any : Option PpToken → Sort
sort_of_any None = sort (raw.Plain cl.Other)
sort_of_any (Some token) = sort_of token

-- what the token at a number is by itself, and to the one before it; past the end nothing that matters
abbrev pub sort_at : List PpToken → ℕ → Sort
sort_at tokens i = sort_of_any (slice_get tokens i)

abbrev pub is_brace_of : Option PpToken → Bool
is_brace_of None = false
is_brace_of (Some token) = pointwise nat_eq token.text (codes "{") || pointwise nat_eq token.text (codes "<%")

abbrev pub is_brace : List PpToken → ℕ → Bool
is_brace tokens i = is_brace_of (slice_get tokens i)

abbrev pub literal_by : List PpToken → Option ℕ → Bool
literal_by tokens None = false
literal_by tokens (Some partner) = is_brace tokens (partner + 1)

-- the partner of the token at a number stands directly before `{`
abbrev pub is_literal : List PpToken → List ℕ → ℕ → Bool
is_literal tokens pairs i = literal_by tokens (slice_get pairs i)

-- an identifier alone is a typedef name
abbrev pub typed_by : Raw → Bool → Bool
typed_by raw.Word typed = typed
typed_by _ typed = false

-- a token, where it is said which names are typedef names before the first one, and these are the partners of the brackets
abbrev pub lexeme_of : (List ℕ → Bool) → List ℕ → List PpToken → ℕ → PpToken → Lexeme
lexeme_of typedefs pairs tokens i token = record {
  shape = shape_of (sort_of token).raw (sort_at tokens (i + 1)).ahead (is_literal tokens pairs i);
  typed = typed_by (sort_of token).raw (typedefs token.text);
  partner = partner_by (slice_get pairs i);
  text = token.text;
}

abbrev pub lexemes_from : (List ℕ → Bool) → List ℕ → List PpToken → ℕ → List PpToken → List Lexeme
lexemes_from typedefs pairs tokens i [] = []
lexemes_from typedefs pairs tokens i (token ∷ rest) = lexeme_of typedefs pairs tokens i token ∷ lexemes_from typedefs pairs tokens (i + 1) rest

-- the tokens up to one, after those that were read: it is said which names are typedef names before the first of the others
abbrev pub lexemes_to : (List ℕ → Bool) → List ℕ → List PpToken → List Lexeme → ℕ → List Lexeme
lexemes_to typedefs pairs tokens read to = read ++ lexemes_from typedefs pairs tokens (length read) (slice_range tokens (length read) to)

-- all of the tokens
unfoldable pub lexemes : (List ℕ → Bool) → List ℕ → List PpToken → List Lexeme
lexemes typedefs pairs tokens = lexemes_from typedefs pairs tokens 0 tokens

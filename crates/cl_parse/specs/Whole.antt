-- Whether tokens end whole: then what stands behind them begins an item of its own.
use Rattle.std.specs.Prelude.{◌≡◌, ◌⊎◌, ◌&&◌, ◌||◌, ℕ, ◌<◌, List, length, slice_get, Option, Some, None, Bool, false, nat_eq, codes}
use Rattle.cl_base.specs.declared.token.PpToken.{PpToken}
use Rattle.cl_base.specs.Tokens.{is_punct}
use Rattle.cl_tree.specs.Brackets.{brackets, brace_at, spells_at}
use Rattle.cl_parse.specs.Extents.{Extent, is_closing, partner}

abbrev pub is_punct_of : Option PpToken → Bool
is_punct_of None = false
is_punct_of (Some token) = is_punct token.kind

-- an open bracket, a closing one
abbrev pub is_opening : List PpToken → ℕ → Bool
is_opening tokens i = spells_at tokens i (codes "(") || spells_at tokens i (codes "[") || spells_at tokens i (codes "<:") || brace_at tokens i

abbrev pub is_ending : List PpToken → ℕ → Bool
is_ending tokens i = is_closing tokens i || spells_at tokens i (codes "}") || spells_at tokens i (codes "%>")

-- a bracket that has no partner
abbrev pub is_alone : List PpToken → List ℕ → ℕ → Bool
is_alone tokens pairs i = is_punct_of (slice_get tokens i) && (is_opening tokens i || is_ending tokens i) && nat_eq (partner pairs i) i

abbrev pub AllPaired : List PpToken → List ℕ → Type 0
AllPaired tokens pairs = (i : ℕ) → i < length tokens → is_alone tokens pairs i ≡ false

-- the extents of external items, laid end to end from a token on and each taken whole, whether it derives or not: the last
-- one has its `;` or its body, and the tokens end with that
pub data LastEnds (tokens : List PpToken) (pairs : List ℕ) : ℕ → Type 0 where
  last : {from : ℕ} → from < length tokens → (e : Extent tokens pairs from (length tokens)) → e.last < length tokens → LastEnds tokens pairs from
  next : {from to : ℕ} → from < length tokens → Extent tokens pairs from to → to < length tokens → LastEnds tokens pairs to → LastEnds tokens pairs from

-- there are no tokens, or all brackets are paired and the last extent ends with the last token
abbrev pub EndsWhole : List PpToken → Type 0
EndsWhole tokens = (length tokens ≡ 0) ⊎ (AllPaired tokens (brackets tokens) × LastEnds tokens (brackets tokens) 0)

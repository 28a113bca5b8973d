-- The partners of brackets, and how far a bad item goes.
use Rattle.std.specs.Prelude.{ℕ, zero, suc, ◌+◌, ◌-◌, List, [], ◌∷◌, ◌++◌, Option, Some, None, length, slice_get, slice_set, take, Bool, true, false, cond, ◌||◌, ◌&&◌, not, nat_lt, codes}
use Rattle.cl_base.specs.declared.token.PpToken.{PpToken}
use Rattle.cl_base.specs.Tokens.{is_punct, spells}
use Rattle.cl_tree.specs.Ends.{last, front}
use Rattle.cl_tree.specs.declared.bracket.Bracket.{Bracket}
use Rattle.cl_tree.specs.declared.bracket.Bracket.TheVariants as br
use Rattle.cl_tree.specs.declared.bracket.Side.{Side}
use Rattle.cl_tree.specs.declared.bracket.Side.TheVariants as side
use Rattle.cl_tree.specs.declared.bracket.Opened.{Opened}
use Rattle.cl_tree.specs.declared.bracket.Brace.{Brace}
use Rattle.cl_tree.specs.declared.bracket.Pairs.{Pairs}

abbrev pub bracket_by : List ℕ → Bracket
bracket_by text =
    cond (spells text (codes "(")) (br.Open side.Round)
    (cond (spells text (codes ")")) (br.Close side.Round)
    (cond (spells text (codes "[") || spells text (codes "<:")) (br.Open side.Square)
    (cond (spells text (codes "]") || spells text (codes ":>")) (br.Close side.Square)
    (cond (spells text (codes "{") || spells text (codes "<%")) (br.Open side.Curly)
    (cond (spells text (codes "}") || spells text (codes "%>")) (br.Close side.Curly) br.None)))))

-- what a token is to the brackets, by its spelling (6.4.6)
abbrev pub bracket_of : PpToken → Bracket
bracket_of token = cond (is_punct token.kind) (bracket_by token.text) br.None

abbrev pub same_side : Side → Side → Bool
same_side side.Round side.Round = true
same_side side.Square side.Square = true
same_side side.Curly side.Curly = true
same_side _ _ = false

-- after some tokens: the open `{`, each with how many other brackets were open before it, the other open brackets, and the partners so far, each
-- token its own where it has none
pub record Pairing : Type 0 where
  pub braces : List Brace
  pub others : List Opened
  pub partners : List ℕ

-- what the code has of it
abbrev pub seen : Pairs → Pairing
seen p = record { braces = p.braces; others = p.others; partners = p.partners.items }

-- a token without a partner so far
abbrev pub alone : Pairing → Pairing
alone p = record { braces = p.braces; others = p.others; partners = p.partners ++ length p.partners ∷ [] }

-- a token whose partner stands there
abbrev pub paired : List ℕ → ℕ → List ℕ
paired ps at = slice_set ps at (length ps) ++ at ∷ []

-- the last open `{` is the partner of `}`, and what was opened after it stays alone
abbrev pub close_brace : Pairing → Option Brace → Pairing
close_brace p None = alone p
close_brace p (Some b) = record { braces = front p.braces; others = take b.before p.others; partners = paired p.partners b.at }

abbrev pub opened_before : Option Brace → ℕ
opened_before None = 0
opened_before (Some b) = b.before

-- the last open bracket is the partner of any other, if it is of its kind
abbrev pub close_other : Pairing → Side → Option Opened → Pairing
close_other p s None = alone p
close_other p s (Some o) =
    cond (nat_lt (opened_before (last p.braces)) (length p.others) && same_side o.side s)
    (record { braces = p.braces; others = front p.others; partners = paired p.partners o.at }) (alone p)

abbrev pub open_bracket : Pairing → Side → Pairing
open_bracket p side.Curly = record {
  braces = p.braces ++ record { at = length p.partners; before = length p.others } ∷ [];
  others = p.others;
  partners = p.partners ++ length p.partners ∷ [];
}
open_bracket p s = record { braces = p.braces; others = p.others ++ record { at = length p.partners; side = s } ∷ []; partners = p.partners ++ length p.partners ∷ [] }

abbrev pub close_bracket : Pairing → Side → Pairing
close_bracket p side.Curly = close_brace p (last p.braces)
close_bracket p s = close_other p s (last p.others)

-- one more token
abbrev pub next : Pairing → Bracket → Pairing
next p br.None = alone p
next p (br.Open s) = open_bracket p s
next p (br.Close s) = close_bracket p s

abbrev pub pairing : Pairing → List PpToken → Pairing
pairing p [] = p
pairing p (token ∷ tokens) = pairing (next p (bracket_of token)) tokens

-- each token's partner, or itself
unfoldable pub brackets : List PpToken → List ℕ
brackets tokens = (pairing (record { braces = []; others = []; partners = [] }) tokens).partners

abbrev pub spells_of : Option PpToken → List ℕ → Bool
spells_of None text = false
spells_of (Some token) text = spells token.text text

abbrev pub spells_at : List PpToken → ℕ → List ℕ → Bool
spells_at tokens i text = spells_of (slice_get tokens i) text

abbrev pub partner_by : Option ℕ → ℕ
partner_by None = 0
partner_by (Some j) = j

abbrev pub brace_at : List PpToken → ℕ → Bool
brace_at tokens i = spells_at tokens i (codes "{") || spells_at tokens i (codes "<%")

abbrev pub past_group : ℕ → ℕ → ℕ
past_group partner end = cond (nat_lt partner end) (partner + 1) end

-- how far a bad item goes from a token on, of so many: past the first `;` or the first brace group at its depth, else to the end
unfoldable pub bad_from : List PpToken → List ℕ → ℕ → ℕ → ℕ → ℕ
bad_from tokens pairs zero at end = end
bad_from tokens pairs (suc n) at end =
    cond (not (nat_lt at end)) end
    (cond (spells_at tokens at (codes ";")) (at + 1)
    (cond (nat_lt at (partner_by (slice_get pairs at)))
    (cond (brace_at tokens at) (past_group (partner_by (slice_get pairs at)) end) (bad_from tokens pairs n (partner_by (slice_get pairs at) + 1) end))
    (bad_from tokens pairs n (at + 1) end)))

abbrev pub bad_extent : List PpToken → List ℕ → ℕ → ℕ → ℕ
bad_extent tokens pairs from end = bad_from tokens pairs (end - from) from end

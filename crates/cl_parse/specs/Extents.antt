-- The extent of an external item (N1570 6.9), told by the tokens' spellings and the partners of the brackets alone.
use Rattle.std.specs.Prelude.{◌≡◌, ◌⊎◌, ℕ, zero, suc, ◌<◌, ◌≤◌, ◌+◌, ◌-◌, List, length, slice_get, Bool, true, false, cond, ◌||◌, ◌&&◌, nat_lt, codes}
use Rattle.cl_base.specs.declared.token.PpToken.{PpToken}
use Rattle.cl_tree.specs.Brackets.{partner_by, spells_at, brace_at, past_group}

-- the number of the partner of a token's bracket, or its own without one
abbrev pub partner : List ℕ → ℕ → ℕ
partner pairs i = partner_by (slice_get pairs i)

-- what stands after a token, or after the bracket group that it begins
abbrev pub past : List ℕ → ℕ → ℕ
past pairs i = cond (nat_lt i (partner pairs i)) (partner pairs i + 1) (i + 1)

-- what stands after so many tokens and groups
abbrev pub after : List ℕ → ℕ → ℕ → ℕ
after pairs zero i = i
after pairs (suc n) i = after pairs n (past pairs i)

-- a token stands at the depth of an item: in none of its bracket groups
abbrev pub AtDepth : List ℕ → ℕ → ℕ → Type 0
AtDepth pairs from i = (n : ℕ) × (after pairs n from ≡ i)

abbrev pub is_semicolon : List PpToken → ℕ → Bool
is_semicolon tokens i = spells_at tokens i (codes ";")

abbrev pub is_equal : List PpToken → ℕ → Bool
is_equal tokens i = spells_at tokens i (codes "=")

-- a `)` or `]`
abbrev pub is_closing : List PpToken → ℕ → Bool
is_closing tokens i = spells_at tokens i (codes ")") || spells_at tokens i (codes "]") || spells_at tokens i (codes ":>")

-- a brace group that directly follows `)` or `]`
unfoldable pub begins_body : List PpToken → List ℕ → ℕ → Bool
begins_body tokens pairs i = brace_at tokens i && nat_lt i (partner pairs i) && is_closing tokens (i - 1)

-- no `=` of an item stands before a token, at the item's depth
abbrev pub NoEqual : List PpToken → List ℕ → ℕ → ℕ → Type 0
NoEqual tokens pairs from i = (j : ℕ) → AtDepth pairs from j → j < i → is_equal tokens j ≡ false

-- an item ends with a token at its depth: a `;`, or the one that begins its body, which no `=` goes before
abbrev pub Stops : List PpToken → List ℕ → ℕ → ℕ → Type 0
Stops tokens pairs from i = AtDepth pairs from i × ((is_semicolon tokens i ≡ true) ⊎ ((begins_body tokens pairs i ≡ true) × NoEqual tokens pairs from i))

-- past a `;`, past a body, or at the end
abbrev pub past_stop : List PpToken → List ℕ → ℕ → ℕ
past_stop tokens pairs i =
    cond (nat_lt i (length tokens)) (cond (is_semicolon tokens i) (i + 1) (past_group (partner pairs i) (length tokens))) (length tokens)

-- an external item goes from a token to the first with which it ends, or to the end of the tokens
pub record Extent (tokens : List PpToken) (pairs : List ℕ) (from to : ℕ) : Type 0 where
  pub last : ℕ
  pub within : last ≤ length tokens
  pub stops : last < length tokens → Stops tokens pairs from last
  pub first : (i : ℕ) → i < last → Stops tokens pairs from i → ⊥
  pub end : to ≡ past_stop tokens pairs last

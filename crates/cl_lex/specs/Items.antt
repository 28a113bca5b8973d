-- Which items a text is cut into (N1570 6.4p4): each is the longest that can be formed. `cs` are the characters after
-- phases 1 and 2.
use Rattle.std.specs.Prelude.{◌≡◌, ◌⊎◌, ℕ, ◌+◌, ◌-◌, ◌<◌, ◌≤◌, ◌&&◌, max, List, [], ◌∷◌, length, slice_index, slice_range, codes, Bool, true, false}
use Rattle.cl_base.specs.declared.token.Kind.{Kind}
use Rattle.cl_base.specs.declared.token.Kind.TheVariants as kind
use Rattle.cl_base.specs.Characters.{char_len}
use Rattle.cl_base.specs.Tokens.{is_ident, is_punct, spells, spells_hash}
use Rattle.cl_lex.specs.declared.item.Item.{Item}
use Rattle.cl_lex.specs.declared.item.ItemKind.{ItemKind}
use Rattle.cl_lex.specs.declared.item.ItemKind.TheVariants as item
use Rattle.cl_lex.specs.Bytes.{is_quote}
use Rattle.cl_lex.specs.Spelling.{IsBlockComment, IsChar, IsHeader, IsIdent, IsLineComment, IsNewLine, IsNumber, IsOpenComment, IsSpace, IsStr, universal_len}
use Rattle.cl_lex.specs.Punctuators.{is_punctuator}

-- a token by its kind and its spelling
abbrev pub Spelt : Type 0
Spelt = Kind × List ℕ

-- these are `#` and `include`, and nothing else. The later one stands first
abbrev pub is_include : List Spelt → Bool
is_include (name ∷ hash ∷ []) = is_punct hash.0 && spells_hash hash.1 && (is_ident name.0 && spells name.1 (codes "include"))
is_include _ = false

module _ (cs : List ℕ) where
  -- the tokens on the line so far, where these items come before. The later one stands first, of the items too
  abbrev pub on_line_by : ItemKind → List ℕ → List Spelt → List Spelt
  on_line_by item.NewLine text line = []
  on_line_by (item.Token k) text line = (k, text) ∷ line
  on_line_by _ text line = line

  abbrev pub on_line : List Item → List Spelt
  on_line [] = []
  on_line (it ∷ before) = on_line_by it.kind (slice_range cs it.from it.to) (on_line before)

  -- a header name may be formed after these items: the tokens of the line so far are `#` and `include` (6.4p4)
  abbrev pub takes_header : List Item → Bool
  takes_header before = is_include (on_line before)

  -- the characters from one place up to another are an item of this kind. Where a header name can be formed, and a string
  -- literal that is as long, the header name goes before it (6.4p4)
  abbrev pub Spells : Bool → ItemKind → ℕ → ℕ → Type 0
  Spells header (item.Token kind.Ident) from to = IsIdent cs from to
  Spells header (item.Token kind.Number) from to = IsNumber cs from to
  Spells header (item.Token kind.Char) from to = IsChar cs from to
  Spells header (item.Token kind.Str) from to = IsStr cs from to × (header ≡ true → IsHeader cs from to → ⊥)
  Spells header (item.Token kind.Header) from to = (header ≡ true) × IsHeader cs from to
  Spells header (item.Token kind.Punct) from to = is_punctuator cs from (to - from) ≡ true
  Spells header (item.Token kind.Other) from to = ⊥
  Spells header item.Comment from to = IsBlockComment cs from to ⊎ IsLineComment cs from to
  Spells header item.OpenComment from to = IsOpenComment cs from to
  Spells header item.Space from to = IsSpace cs from to
  Spells header item.NewLine from to = IsNewLine cs from to

  -- an item, where no longer front of what is left is one of any kind
  pub record IsLongest (header : Bool) (what : ItemKind) (from to : ℕ) : Type 0 where
    pub within : to ≤ length cs
    pub spells : Spells header what from to
    pub longest : (other : ItemKind) (m : ℕ) → to < m → m ≤ length cs → Spells header other from m → ⊥

  -- no front of what is left is an item
  abbrev pub IsStray : Bool → ℕ → Type 0
  IsStray header from = (other : ItemKind) (m : ℕ) → m ≤ length cs → Spells header other from m → ⊥

  -- from a quote that nothing closes up to the end of its line
  pub record IsLoneQuote (from to : ℕ) : Type 0 where
    pub some : from < to
    pub within : to ≤ length cs
    pub quote : is_quote (slice_index cs from) ≡ true
    pub one_line : (i : ℕ) → from ≤ i → i < to → slice_index cs i ≡ 10 → ⊥
    pub ends : to < length cs → slice_index cs to ≡ 10

  -- a character by itself: a universal character name, or a character of one or more bytes, or a byte of none
  abbrev pub alone_len : ℕ → ℕ
  alone_len from = max (max (char_len cs from) (universal_len cs from)) 1

  abbrev pub IsAlone : ℕ → ℕ → Type 0
  IsAlone from to = (is_quote (slice_index cs from) ≡ false) × (to ≡ from + alone_len from)

  -- the item that begins here
  abbrev pub IsItem : Bool → ItemKind → ℕ → ℕ → Type 0
  IsItem header (item.Token kind.Other) from to = IsStray header from × (IsLoneQuote from to ⊎ IsAlone from to)
  IsItem header what from to = IsLongest header what from to

  -- the items from a place on, where these come before it, the last first: one follows the other up to the end
  abbrev pub Tiles : List Item → ℕ → List Item → Type 0
  Tiles before at [] = at ≡ length cs
  Tiles before at (it ∷ items) =
      (it.from ≡ at) × (at < it.to) × (it.to ≤ length cs) × IsItem (takes_header before) it.kind at it.to × Tiles (it ∷ before) it.to items

-- a spelling is cut into one item, and that is a token of this kind
abbrev pub IsOneToken : List ℕ → Kind → Type 0
IsOneToken spelling k = Tiles spelling [] 0 (record { kind = item.Token k; from = 0; to = length spelling } ∷ [])

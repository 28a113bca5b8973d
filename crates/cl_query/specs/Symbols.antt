-- The symbols of a text (LSP 3.17, DocumentSymbol).
use Rattle.std.specs.Prelude.{ℕ, ◌==◌, if◌then◌else◌, List, [], ◌∷◌, Option, Some, None, min, max, length, slice_get, slice_range}
use Rattle.std.specs.List.{flat_map}
use Rattle.cl_base.specs.declared.token.Span.{Span}
use Rattle.cl_base.specs.declared.place.Position.{Position}
use Rattle.cl_base.specs.declared.place.Range.{Range}
use Rattle.cl_base.specs.declared.answer.Symbol.{Symbol}
use Rattle.cl_base.specs.declared.answer.Symbol.TheViews.{roll-Symbol}
use Rattle.cl_base.specs.declared.token.PpToken.{PpToken}
use Rattle.cl_base.specs.Lines.{position_at}
use Rattle.cl_parse.specs.declared.item.Item.{Item}
use Rattle.cl_outline.specs.declared.mention.Mention.{Mention}
use Rattle.cl_outline.specs.declared.mention.Sort.{Sort}
use Rattle.cl_outline.specs.declared.mention.Sort.TheVariants as so
use Rattle.cl_outline.specs.Mentions.{outline}

-- the position of an offset; one past the text's end counts as the end
abbrev pub place_of : List ℕ → ℕ → Position
place_of text offset = position_at text (min offset (length text))

abbrev pub range_of : List ℕ → ℕ → ℕ → Range
range_of text from to = record { start = place_of text from; end = place_of text to }

-- the least of an offset and those where tokens of the document begin, which is the file 0
abbrev pub least : ℕ → List PpToken → ℕ
least n [] = n
least n (t ∷ ts) = least (if t.at.file == 0 then min n t.at.from else n) ts

-- the greatest of an offset and those where tokens of the document end
abbrev pub greatest : ℕ → List PpToken → ℕ
greatest n [] = n
greatest n (t ∷ ts) = greatest (if t.at.file == 0 then max n t.at.to else n) ts

-- from the least to the greatest offset of an item's tokens that stand in the document
abbrev pub item_range : List ℕ → List PpToken → ℕ → ℕ → Range
item_range text tokens from to = range_of text (least (length text) (slice_range tokens from to)) (greatest 0 (slice_range tokens from to))

-- where a token is written, if that is in the document, and else where it stands
abbrev pub written_by : Option Span → Span → Span
written_by None at = at
written_by (Some spell) at = if spell.file == 0 then spell else at

-- LSP's SymbolKind: function 12, variable 13, struct 23 (a union's too), enum 10, and for a typedef type parameter 26
abbrev pub kind_of : Sort → ℕ
kind_of so.Function = 12
kind_of so.Object = 13
kind_of so.Typedef = 26
kind_of so.Structure = 23
kind_of so.Enumeration = 10

-- the symbol of a declaration in an item of this range: its selection is where its name is written
unfoldable pub symbol_by : List ℕ → Range → Mention → PpToken → Symbol
symbol_by text range m name = roll-Symbol (record {
  kind = kind_of m.sort;
  name = name.text;
  range = range;
  selection = range_of text (written_by name.spell name.at).from (written_by name.spell name.at).to;
  children = [];
})

-- a declaration is the document's if its name stands there
abbrev pub symbols_by : List ℕ → List PpToken → Mention → Option PpToken → List Symbol
symbols_by text tokens m None = []
symbols_by text tokens m (Some name) = if name.at.file == 0 then symbol_by text (item_range text tokens m.from m.to) m name ∷ [] else []

abbrev pub symbols_for : List ℕ → List PpToken → Mention → List Symbol
symbols_for text tokens m = symbols_by text tokens m (slice_get tokens m.at)

-- those of what the items declare at file scope, in order
abbrev pub symbols_in : List ℕ → List PpToken → List Item → List Symbol
symbols_in text tokens items = flat_map (symbols_for text tokens) (outline tokens items)

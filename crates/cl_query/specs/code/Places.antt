-- What the code keeps of the places in a text.
use Rattle.std.specs.Prelude.{◌≡◌, ℕ, List}
use Rattle.std.specs.List.{All}
use Rattle.cl_base.specs.Lines.{position_at}
use Rattle.cl_base.specs.declared.cursor.Cursor.{Cursor}
use Rattle.cl_base.specs.declared.token.PpToken.{PpToken}
use Rattle.cl_query.specs.Symbols.{item_range}
use Rattle.cl_query.specs.declared.symbols.Ranged.{Ranged}

-- its position is that of its offset
abbrev pub Stands : List ℕ → Cursor → Type 0
Stands text cursor = cursor.position ≡ position_at text cursor.offset

abbrev pub AllStand : List ℕ → List Cursor → Type 0
AllStand text cursors = All (Stands text) cursors

-- the range is that of the item
abbrev pub IsRanged : List ℕ → List PpToken → Ranged → Type 0
IsRanged text tokens it = it.range ≡ item_range text tokens it.from it.to

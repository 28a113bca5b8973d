-- How far the code has read a file.
use Rattle.std.specs.Prelude.{◌≡◌, ℕ, ◌<◌, ◌≤◌, List, ◌∷◌, length, take}
use Rattle.cl_base.specs.declared.token.PpToken.{PpToken}
use Rattle.cl_tree.specs.Derives.{External}
use Rattle.cl_tree.specs.Lexemes.{lexemes_to}
use Rattle.cl_tree.specs.Scopes.{empty, known}
use Rattle.cl_tree.specs.Sets.{has}
use Rattle.cl_tree.specs.declared.lexeme.Lexeme.{Lexeme}
use Rattle.cl_tree.specs.declared.scope.Change.{Change}
use Rattle.cl_tree.specs.declared.scope.Scope.{Scope}
use Rattle.cl_tree.specs.declared.tree.Tree.{Tree}
use Rattle.cl_parse.specs.Items.{ItemTiles}
use Rattle.cl_parse.specs.code.Ahead.{AreAnew, Covers}
use Rattle.cl_parse.specs.code.Marks.{AreMarks}
use Rattle.cl_parse.specs.declared.item.Item.{Item}
use Rattle.cl_parse.specs.declared.marks.Marks.{Marks}
use Rattle.cl_parse.specs.declared.parse.Next.{Next}
use Rattle.cl_parse.specs.declared.parse.Reading.{Reading}

-- the tokens of the items before the next one
abbrev pub before : Reading → List Lexeme
before r = take r.at r.ahead.items

-- what lies ahead was read with the names that are known there
pub record Reads (tokens : List PpToken) (pairs : List ℕ) (r : Reading) : Type 0 where
  pub within : r.at ≤ length r.ahead.items
  pub short : length r.ahead.items ≤ length tokens
  pub ahead : r.ahead.items ≡ lexemes_to (has r.names) pairs tokens (before r) (length r.ahead.items)
  pub covers : Covers r.places r.ahead.items r.at
  pub from : r.marks.from ≡ r.at
  pub marks : AreMarks tokens pairs r.marks

-- more tokens are read
pub record IsExtended (tokens : List PpToken) (pairs : List ℕ) (old : Reading) (to : ℕ) (new : Reading) : Type 0 where
  pub reads : Reads tokens pairs new
  pub far : to ≤ length new.ahead.items
  pub names : new.names ≡ old.names
  pub at : new.at ≡ old.at
  pub marks : new.marks ≡ old.marks
  pub before : before new ≡ before old

-- a proper item that ends there was passed, which leaves these changes
pub record IsSettled (old : Reading) (changes : List Change) (to : ℕ) (marks : Marks) (new : Reading) : Type 0 where
  pub names_are : (name : List ℕ) → has new.names name ≡ known (take to old.ahead.items) changes (has old.names name) name
  pub ahead_is : AreAnew (has new.names) to old.ahead.items new.ahead.items
  pub covers : Covers new.places new.ahead.items to
  pub at : new.at ≡ to
  pub marks_are : new.marks ≡ marks

-- no external declaration derives from the next item on up to an end, which is no end behind it where that isn't known
abbrev pub IsDead : Reading → ℕ → Type 0
IsDead r dead = r.at < dead → (dead ≤ length r.ahead.items) × ((t : Tree) (w : Scope) → External (take dead r.ahead.items) empty r.at t w → ⊥)

-- the next item was read
pub record IsNext (tokens : List PpToken) (pairs : List ℕ) (old : Reading) (next : Next) : Type 0 where
  pub reads : Reads tokens pairs next.reading
  pub further : old.at < next.reading.at
  pub dead : IsDead next.reading next.dead
  pub tiles : (items : List Item) → ItemTiles tokens pairs (has next.reading.names) (before next.reading) items
      → ItemTiles tokens pairs (has old.names) (before old) (next.item ∷ items)

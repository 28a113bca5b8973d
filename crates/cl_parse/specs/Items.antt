-- Which items a file has (N1570 6.9).
use Rattle.std.specs.Prelude.{◌≡◌, ℕ, ◌<◌, List, [], ◌∷◌, length, Bool, false}
use Rattle.cl_base.specs.declared.token.PpToken.{PpToken}
use Rattle.cl_tree.specs.Brackets.{bad_extent, brackets}
use Rattle.cl_tree.specs.Derives.{External, end}
use Rattle.cl_tree.specs.Lexemes.{lexemes_to}
use Rattle.cl_tree.specs.Scopes.{empty, known}
use Rattle.cl_tree.specs.declared.lexeme.Lexeme.{Lexeme}
use Rattle.cl_tree.specs.declared.scope.Scope.{Scope}
use Rattle.cl_tree.specs.declared.tree.Tree.{Tree}
use Rattle.cl_parse.specs.Extents.{Extent}
use Rattle.cl_parse.specs.declared.item.Item.{Item}
use Rattle.cl_parse.specs.declared.item.Item.TheVariants.{Proper, Bad}

-- which names are typedef names
abbrev pub Names : Type 0
Names = List ℕ → Bool

abbrev pub no_names : Names
no_names name = false

-- an item that begins behind what was read of a file is proper: an external declaration derives on just its extent
pub record IsProper (tokens : List PpToken) (pairs : List ℕ) (names : Names) (read : List Lexeme) (tree : Tree) (after : Scope) : Type 0 where
  pub extent : Extent tokens pairs (length read) (end tree)
  pub derives : External (lexemes_to names pairs tokens read (end tree)) empty (length read) tree after

-- it is bad: none derives there, and it goes past its first `;` or its first brace group
pub record IsBad (tokens : List PpToken) (pairs : List ℕ) (names : Names) (read : List Lexeme) (from to : ℕ) : Type 0 where
  pub starts : from ≡ length read
  pub ends : to ≡ bad_extent tokens pairs from (length tokens)
  pub none : (tree : Tree) (after : Scope) → IsProper tokens pairs names read tree after → ⊥

-- which names are typedef names behind an item: what it leaves declared says so, else what was before it
abbrev pub learned : Names → List Lexeme → Scope → Names
learned names read after name = known read after.changes (names name) name

-- the items from a token on, one behind the other up to the last token. The tokens before are read; the names are typedef
-- names before the next one, and a bad item declares nothing
abbrev pub ItemTiles : List PpToken → List ℕ → Names → List Lexeme → List Item → Type 0
ItemTiles tokens pairs names read [] = length read ≡ length tokens
ItemTiles tokens pairs names read (Proper tree ∷ items) =
    (length read < length tokens) × (after : Scope) × IsProper tokens pairs names read tree after
    × ItemTiles tokens pairs (learned names (lexemes_to names pairs tokens read (end tree)) after) (lexemes_to names pairs tokens read (end tree)) items
ItemTiles tokens pairs names read (Bad from to ∷ items) =
    (length read < length tokens) × IsBad tokens pairs names read from to × ItemTiles tokens pairs names (lexemes_to names pairs tokens read to) items

-- the items of these tokens, where these names are typedef names before the first one
abbrev pub ItemsOf : Names → List PpToken → List Item → Type 0
ItemsOf names tokens items = ItemTiles tokens (brackets tokens) names [] items

-- What the code keeps of the tokens ahead of an item.
use Rattle.std.specs.Prelude.{◌≡◌, ◌⊎◌, ℕ, ◌<◌, ◌≤◌, List, [], length, slice_get, Bool, true, false, cond, Option, Some, None}
use Rattle.std.specs.BTreeMap.{get}
use Rattle.std.specs.Cmp.Lexicographic.{slice_cmp}
use Rattle.std.specs.Option.{option_map}
use Rattle.std.specs.Ordering.{nat_cmp}
use Rattle.cl_tree.specs.Scopes.{text_at}
use Rattle.cl_tree.specs.declared.lexeme.Lexeme.{Lexeme}
use Rattle.cl_tree.specs.declared.scope.Change.{Change}
use Rattle.cl_tree.specs.declared.shape.Shape.{Shape}
use Rattle.cl_tree.specs.declared.shape.Shape.TheVariants.{Fixed, Word, Paren}
use Rattle.cl_parse.specs.Items.{Names}
use Rattle.cl_parse.specs.declared.ahead.Places.{Places}

abbrev pub is_word : Shape → Bool
is_word (Fixed k) = false
is_word (Word colon) = true
is_word (Paren literal types) = false

-- an identifier alone is a typedef name
abbrev pub typed_for : Shape → Bool → Bool
typed_for (Fixed k) typed = false
typed_for (Word colon) typed = typed
typed_for (Paren literal types) typed = false

-- a token with these typedef names
abbrev pub retyped : Names → Lexeme → Lexeme
retyped names l = record { shape = l.shape; typed = typed_for l.shape (names l.text); partner = l.partner; text = l.text }

abbrev pub retyped_at : Names → List Lexeme → ℕ → Option Lexeme
retyped_at names ts i = option_map (retyped names) (slice_get ts i)

-- what an identifier spells
abbrev pub word_of : Option Lexeme → Option (List ℕ)
word_of None = None
word_of (Some l) = cond (is_word l.shape) (Some l.text) None

abbrev pub word_at : List Lexeme → ℕ → Option (List ℕ)
word_at ts i = word_of (slice_get ts i)

abbrev pub numbers_of : Option (List ℕ) → List ℕ
numbers_of None = []
numbers_of (Some numbers) = numbers

abbrev pub places_of : Places → List ℕ → List ℕ
places_of places name = numbers_of (get (slice_cmp nat_cmp) places.of name)

-- a number is one of these
abbrev pub IsOneOf : List ℕ → ℕ → Type 0
IsOneOf numbers i = (k : ℕ) × (slice_get numbers k ≡ Some i)

-- one more place of a name, and the others are as they were
pub record IsOneMore (old new : Places) (name : List ℕ) (at : ℕ) : Type 0 where
  pub upto : new.upto ≡ old.upto
  pub here : IsOneOf (places_of new name) at
  pub others : (other : List ℕ) (i : ℕ) → IsOneOf (places_of old other) i → IsOneOf (places_of new other) i

-- each identifier from a token up to another is found by what it spells
abbrev pub Finds : Places → List Lexeme → ℕ → ℕ → Type 0
Finds places ts from to = (i : ℕ) (name : List ℕ) → from ≤ i → i < to → word_at ts i ≡ Some name → IsOneOf (places_of places name) i

-- each that the places go up to
pub record Covers (places : Places) (ts : List Lexeme) (from : ℕ) : Type 0 where
  pub short : places.upto ≤ length ts
  pub finds : Finds places ts from places.upto

-- the tokens from one on have these typedef names
abbrev pub AreNamed : Names → List Lexeme → ℕ → Type 0
AreNamed names ts from = (i : ℕ) → from ≤ i → slice_get ts i ≡ retyped_at names ts i

-- one token has these typedef names, and the others are as they were
pub record IsOneAnew (names : Names) (at : ℕ) (old new : List Lexeme) : Type 0 where
  pub count : length new ≡ length old
  pub here : slice_get new at ≡ retyped_at names old at
  pub others : (i : ℕ) → (i ≡ at → ⊥) → slice_get new i ≡ slice_get old i

-- some tokens from one on have these typedef names, and the others are as they were
pub record AreSomeAnew (names : Names) (to : ℕ) (old new : List Lexeme) : Type 0 where
  pub count : length new ≡ length old
  pub front : (i : ℕ) → i < to → slice_get new i ≡ slice_get old i
  pub each : (i : ℕ) → (slice_get new i ≡ slice_get old i) ⊎ (slice_get new i ≡ retyped_at names old i)

-- those among them that stand at the first so many of these places have them
pub record AreTold (names : Names) (to : ℕ) (places : List ℕ) (count : ℕ) (old new : List Lexeme) : Type 0 where
  pub some : AreSomeAnew names to old new
  pub told : (k i : ℕ) → k < count → slice_get places k ≡ Some i → to ≤ i → slice_get new i ≡ retyped_at names old i

-- those that spell the name of one of the first so many of these changes have them
pub record AreLearned (names : Names) (to : ℕ) (read : List Lexeme) (changes : List Change) (count : ℕ) (old new : List Lexeme) : Type 0 where
  pub some : AreSomeAnew names to old new
  pub learned : (k : ℕ) (c : Change) (i : ℕ) → k < count → slice_get changes k ≡ Some c → to ≤ i → word_at old i ≡ Some (text_at read c.at) → slice_get new i ≡ retyped_at names old i

-- all tokens from one on have these typedef names
pub record AreAnew (names : Names) (to : ℕ) (old new : List Lexeme) : Type 0 where
  pub count : length new ≡ length old
  pub front : (i : ℕ) → i < to → slice_get new i ≡ slice_get old i
  pub behind : (i : ℕ) → to ≤ i → slice_get new i ≡ retyped_at names old i

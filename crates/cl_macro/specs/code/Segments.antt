-- Tokens that many invocations share, as the code keeps them.
use Rattle.std.specs.Prelude.{◌≡◌, ℕ, ◌≤◌, false, List, [], ◌∷◌, Option, Some, None, length, drop, take, map, reverse}
use Rattle.cl_macro.specs.declared.segment.Slot.{Slot}
use Rattle.cl_macro.specs.declared.word.Word.{Word}
use Rattle.cl_macro.specs.Turns.{close_at, depth_after}
use Rattle.cl_macro.specs.Words.{taken}

abbrev pub slot_word : Slot → Word
slot_word slot = record { token = slot.token; hide = slot.hide; given = false }

-- each tells how many tokens from it on stand before the `)` that has no `(` among them
abbrev pub Linked : List Slot → Type 0
Linked [] = Unit {0}
Linked (slot ∷ slots) = (slot.close ≡ close_at 0 (map slot_word (slot ∷ slots))) × Linked slots

-- a `(` outside others
pub record Opens (w : Word) (depth : ℕ) : Type 0 where
  pub outer : depth ≡ 0
  pub deeper : depth_after w 0 ≡ 1

-- so many tokens are taken, as an invocation takes them
pub record Takes (count : ℕ) (old new words : List Word) : Type 0 where
  pub within : count ≤ length old
  pub taken : words ≡ map taken (take count (reverse old))
  pub left : reverse new ≡ drop count (reverse old)

abbrev pub Found : ℕ → List Word → List Word → Option (List Word) → Type 0
Found count old new None = new ≡ old
Found count old new (Some words) = Takes count old new words

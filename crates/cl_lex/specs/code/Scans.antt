-- What the scans of the code find. No public clause rests on this.
use Rattle.std.specs.Prelude.{◌≡◌, ℕ, ◌<◌, ◌≤◌, List, length, slice_index, Bool, codes}
use Rattle.cl_lex.specs.Punctuators.{is_one_of}
use Rattle.cl_lex.specs.Spelling.{HasNone}

-- the first `*` from a character on
pub record IsNextStar (cs : List ℕ) (from star : ℕ) : Type 0 where
  pub after : from ≤ star
  pub within : star < length cs
  pub is : slice_index cs star ≡ 42
  pub none : HasNone cs 42 from star

-- a punctuator that begins no longer one
abbrev pub is_single : ℕ → Bool
is_single c = is_one_of (codes "(),;[]{}?~") c

-- What a Source holds of the characters of its text.
use Rattle.std.specs.Prelude.{◌≡◌, ℕ, ◌≤◌, ◌^◌, List, length, map, Option, Some, None}
use Rattle.std.specs.List.{range_with_len}
use Rattle.cl_lex.specs.declared.source.Joined.{Joined}
use Rattle.cl_lex.specs.declared.source.Starts.{Starts}
use Rattle.cl_lex.specs.Source.{Character, characters, values}

-- where each character begins
abbrev pub starts : List Character → List ℕ
starts cs = map (λ (c : Character). c.from) cs

-- the starts that are held: each byte's place, where no character is joined of several
abbrev pub held_starts : List ℕ → Option Starts → List ℕ
held_starts text None = range_with_len 0 (length text)
held_starts text (Some held) = held.places.items

-- what is held is the characters of the text
pub record IsHeld (text chars : List ℕ) (held : Option Starts) : Type 0 where
  pub short : length text ≤ 2 ^ 28
  pub values : chars ≡ values (characters text)
  pub starts : held_starts text held ≡ starts (characters text)

-- and what is joined of them
pub record IsJoined (text : List ℕ) (joined : Joined) : Type 0 where
  pub values : joined.values.items ≡ values (characters text)
  pub starts : joined.starts.items ≡ starts (characters text)

-- The punctuators (N1570 6.4.6), by their lengths.
use Rattle.std.specs.Prelude.{ℕ, zero, suc, ◌+◌, ◌||◌, ◌&&◌, ◌==◌, List, slice_index, Bool, false, codes}
use Rattle.std.specs.List.{list_any}

abbrev pub is_one_of : List ℕ → ℕ → Bool
is_one_of all c = list_any (λ (x : ℕ). c == x) all

-- one character
abbrev pub is_punctuator_1 : ℕ → Bool
is_punctuator_1 a = is_one_of (codes "[](){}.&*+-~!/%<>^|?:;=,#") a

-- two characters: a first one, and one that may stand after it; the digraphs are among them
abbrev pub is_punctuator_2 : ℕ → ℕ → Bool
is_punctuator_2 a b =
    (is_one_of (codes "+-&|<>=#") a && a == b)
    || (is_one_of (codes "<>=!*/%+-&^|") a && b == 61)
    || (a == 45 && b == 62)
    || (a == 60 && is_one_of (codes ":%") b)
    || (is_one_of (codes ":%") a && b == 62)
    || (a == 37 && b == 58)

-- three: `...`, `<<=`, `>>=`
abbrev pub is_punctuator_3 : ℕ → ℕ → ℕ → Bool
is_punctuator_3 a b c = (a == 46 && b == 46 && c == 46) || (is_one_of (codes "<>") a && a == b && c == 61)

-- four: `%:%:`
abbrev pub is_punctuator_4 : ℕ → ℕ → ℕ → ℕ → Bool
is_punctuator_4 a b c d = a == 37 && b == 58 && c == 37 && d == 58

module _ (cs : List ℕ) where
  abbrev pub c : ℕ → ℕ
  c i = slice_index cs i

  -- so many characters from here on are a punctuator
  abbrev pub is_punctuator : ℕ → ℕ → Bool
  is_punctuator from (suc zero) = is_punctuator_1 (c from)
  is_punctuator from (suc (suc zero)) = is_punctuator_2 (c from) (c (from + 1))
  is_punctuator from (suc (suc (suc zero))) = is_punctuator_3 (c from) (c (from + 1)) (c (from + 2))
  is_punctuator from (suc (suc (suc (suc zero)))) = is_punctuator_4 (c from) (c (from + 1)) (c (from + 2)) (c (from + 3))
  is_punctuator from _ = false

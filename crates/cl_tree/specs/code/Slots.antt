-- Where the code looks for a spelling: each text of a table has a slot of its own there.
use Rattle.std.specs.Prelude.{ℕ, ◌+◌, ◌-◌, ◌*◌, ◌%◌, List, [], ◌∷◌, Option, Some, None, slice_get, length, cond, nat_eq}
use Rattle.std.specs.Cmp.Lexicographic.{pointwise}
use Rattle.cl_tree.specs.declared.shape.Sort.{Sort}
use Rattle.cl_tree.specs.Spellings.{Spelling}

abbrev pub or_number : ℕ → Option ℕ → ℕ
or_number n None = n
or_number n (Some b) = b

abbrev pub byte_at : List ℕ → ℕ → ℕ
byte_at text i = or_number 0 (slice_get text i)

abbrev pub row_at : List ℕ → ℕ → ℕ
row_at rows i = or_number 255 (slice_get rows i)

abbrev pub keyword_slot : List ℕ → ℕ
keyword_slot text = (length text % 128 + byte_at text 0 * 10 + byte_at text (length text - 1) * 3) % 128

abbrev pub punctuator_slot : List ℕ → ℕ
punctuator_slot text = (length text % 128 * 12 + byte_at text 0 * 9 + byte_at text (length text - 1) * 28) % 128

-- what a row stands for, if it is that of the text
abbrev pub row_of : Option Spelling → List ℕ → Sort → Sort
row_of None text other = other
row_of (Some r) text other = cond (pointwise nat_eq r.text text) r.sort other

unfoldable pub keyword_rows : List ℕ
keyword_rows =
    255 ∷ 255 ∷ 255 ∷ 255 ∷ 255 ∷ 255 ∷ 255 ∷ 9 ∷ 255 ∷ 7 ∷ 255 ∷ 255 ∷ 255 ∷ 255 ∷ 255 ∷ 255 ∷
    255 ∷ 12 ∷ 255 ∷ 255 ∷ 255 ∷ 15 ∷ 255 ∷ 0 ∷ 255 ∷ 255 ∷ 11 ∷ 10 ∷ 255 ∷ 18 ∷ 255 ∷ 255 ∷
    8 ∷ 255 ∷ 255 ∷ 255 ∷ 255 ∷ 19 ∷ 4 ∷ 255 ∷ 255 ∷ 255 ∷ 255 ∷ 6 ∷ 255 ∷ 35 ∷ 255 ∷ 255 ∷
    33 ∷ 255 ∷ 255 ∷ 255 ∷ 255 ∷ 255 ∷ 34 ∷ 17 ∷ 13 ∷ 255 ∷ 255 ∷ 255 ∷ 37 ∷ 20 ∷ 255 ∷ 14 ∷
    255 ∷ 38 ∷ 21 ∷ 255 ∷ 31 ∷ 255 ∷ 40 ∷ 255 ∷ 255 ∷ 255 ∷ 255 ∷ 16 ∷ 41 ∷ 255 ∷ 25 ∷ 26 ∷
    255 ∷ 255 ∷ 29 ∷ 42 ∷ 255 ∷ 23 ∷ 255 ∷ 24 ∷ 30 ∷ 255 ∷ 43 ∷ 255 ∷ 255 ∷ 22 ∷ 255 ∷ 32 ∷
    36 ∷ 39 ∷ 255 ∷ 255 ∷ 255 ∷ 255 ∷ 2 ∷ 5 ∷ 255 ∷ 255 ∷ 255 ∷ 255 ∷ 255 ∷ 255 ∷ 255 ∷ 255 ∷
    1 ∷ 28 ∷ 255 ∷ 255 ∷ 255 ∷ 255 ∷ 255 ∷ 255 ∷ 255 ∷ 27 ∷ 255 ∷ 255 ∷ 255 ∷ 255 ∷ 255 ∷ 3 ∷
    []

unfoldable pub punctuator_rows : List ℕ
punctuator_rows =
    255 ∷ 255 ∷ 25 ∷ 255 ∷ 33 ∷ 255 ∷ 255 ∷ 255 ∷ 255 ∷ 255 ∷ 12 ∷ 255 ∷ 46 ∷ 14 ∷ 23 ∷ 255 ∷
    255 ∷ 38 ∷ 44 ∷ 3 ∷ 255 ∷ 255 ∷ 32 ∷ 255 ∷ 255 ∷ 17 ∷ 43 ∷ 255 ∷ 255 ∷ 8 ∷ 5 ∷ 255 ∷
    45 ∷ 255 ∷ 30 ∷ 255 ∷ 255 ∷ 255 ∷ 255 ∷ 34 ∷ 255 ∷ 255 ∷ 255 ∷ 255 ∷ 255 ∷ 49 ∷ 255 ∷ 255 ∷
    255 ∷ 255 ∷ 9 ∷ 10 ∷ 255 ∷ 255 ∷ 255 ∷ 255 ∷ 24 ∷ 255 ∷ 255 ∷ 255 ∷ 255 ∷ 255 ∷ 36 ∷ 255 ∷
    48 ∷ 255 ∷ 18 ∷ 13 ∷ 22 ∷ 255 ∷ 255 ∷ 39 ∷ 255 ∷ 255 ∷ 35 ∷ 255 ∷ 255 ∷ 255 ∷ 255 ∷ 16 ∷
    255 ∷ 19 ∷ 255 ∷ 7 ∷ 0 ∷ 255 ∷ 255 ∷ 20 ∷ 255 ∷ 40 ∷ 255 ∷ 255 ∷ 255 ∷ 4 ∷ 255 ∷ 255 ∷
    26 ∷ 255 ∷ 255 ∷ 255 ∷ 255 ∷ 21 ∷ 255 ∷ 255 ∷ 2 ∷ 28 ∷ 47 ∷ 37 ∷ 41 ∷ 29 ∷ 15 ∷ 255 ∷
    255 ∷ 255 ∷ 27 ∷ 255 ∷ 255 ∷ 6 ∷ 255 ∷ 255 ∷ 31 ∷ 1 ∷ 255 ∷ 255 ∷ 255 ∷ 11 ∷ 42 ∷ 255 ∷
    []

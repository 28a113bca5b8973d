-- The characters of a text after translation phases 1 and 2 (N1570 5.1.1.2, 5.2.1.1): line ends are one character,
-- trigraphs are replaced, and a backslash with the line end after it is gone.
use Rattle.std.specs.Prelude.{ℕ, zero, suc, ◌+◌, ◌&&◌, ◌==◌, nat_lt, not, List, [], ◌∷◌, length, map, slice_index, Bool, if◌then◌else◌}

-- this character stands there
abbrev pub stands : List ℕ → ℕ → ℕ → Bool
stands text at c = nat_lt at (length text) && slice_index text at == c

-- how many bytes the line end has that begins here, 0 where none does: LF, CR, or CR LF
abbrev pub newline_width : List ℕ → ℕ → ℕ
newline_width text at =
    if stands text at 10 then 1 else
    if stands text at 13 then (if stands text (at + 1) 10 then 2 else 1) else 0

-- what a trigraph with this third character stands for, 0 where there is no such trigraph (5.2.1.1)
abbrev pub trigraph : ℕ → ℕ
trigraph c =
    if c == 61 then 35 else
    if c == 40 then 91 else
    if c == 47 then 92 else
    if c == 41 then 93 else
    if c == 39 then 94 else
    if c == 60 then 123 else
    if c == 33 then 124 else
    if c == 62 then 125 else
    if c == 45 then 126 else 0

-- a trigraph begins here
abbrev pub is_trigraph : List ℕ → ℕ → Bool
is_trigraph text at =
    stands text at 63 && stands text (at + 1) 63 && nat_lt (at + 2) (length text) && not (trigraph (slice_index text (at + 2)) == 0)

-- a byte order mark stands at the start of the text; it counts as a space
abbrev pub is_byte_order_mark : List ℕ → ℕ → Bool
is_byte_order_mark text at = at == 0 && stands text 0 239 && stands text 1 187 && stands text 2 191

-- the character that begins at this byte of the text, and how many bytes it has
abbrev pub value_at : List ℕ → ℕ → ℕ
value_at text at =
    if not (newline_width text at == 0) then 10 else
    if is_trigraph text at then trigraph (slice_index text (at + 2)) else
    if is_byte_order_mark text at then 32 else slice_index text at

abbrev pub width_at : List ℕ → ℕ → ℕ
width_at text at =
    if not (newline_width text at == 0) then newline_width text at else
    if is_trigraph text at then 3 else
    if is_byte_order_mark text at then 3 else 1

-- a backslash with a line end directly after it
abbrev pub is_splice : List ℕ → ℕ → Bool
is_splice text at = value_at text at == 92 && not (newline_width text (at + width_at text at) == 0)

-- how many bytes the splice has
abbrev pub splice_width : List ℕ → ℕ → ℕ
splice_width text at = width_at text at + newline_width text (at + width_at text at)

-- a character of the text, with the bytes that it is written with
pub record Character : Type 0 where
  pub value : ℕ
  pub from : ℕ
  pub to : ℕ

-- the characters from a byte on, of the pieces that lie one after the other up to the text's end, where the number of
-- pieces is given: a splice is no character
abbrev pub characters_in : List ℕ → ℕ → ℕ → List Character
characters_in text zero at = []
characters_in text (suc n) at =
    if nat_lt at (length text) then
    (if is_splice text at then characters_in text n (at + splice_width text at) else
    record { value = value_at text at; from = at; to = at + width_at text at } ∷ characters_in text n (at + width_at text at))
    else []

-- the characters of a text; it has at most as many pieces as bytes
unfoldable pub characters : List ℕ → List Character
characters text = characters_in text (length text) 0

abbrev pub values : List Character → List ℕ
values cs = map (λ (c : Character). c.value) cs

-- The slot of a text has the row where a walk through the table finds it.
use Rattle.std.proofs.Common.{arith, ◌≡◌, ℕ, zero, suc, ◌+◌, ◌<◌, List, [], ◌∷◌, refl, sym, ◌∙◌, ap, Bool, true, false, ◌&&◌}
use Rattle.std.specs.Prelude.{slice_get, nat_eq, cond}
use Rattle.std.specs.Cmp.Lexicographic.{pointwise}
use Rattle.std.proofs.lemmas.Bool.{and_parts}
use Rattle.std.proofs.lemmas.Slice.Eq.{bytes_eq-Decides}
use Rattle.cl_tree.specs.declared.shape.Sort.{Sort}
use Rattle.cl_tree.specs.Spellings.{Spelling, find, keywords, punctuators}
use Rattle.cl_tree.specs.code.Slots.{keyword_rows, keyword_slot, punctuator_rows, punctuator_slot, row_at, row_of}

-- each of these texts has its row, of which the first has this number
abbrev home : (List ℕ → ℕ) → ℕ → List Spelling → Bool
home row i [] = true
home row i (r ∷ rs) = nat_eq (row r.text) i && home row (i + 1) rs

nat_same : (a b : ℕ) → nat_eq a b ≡ true → a ≡ b
nat_same a b e = grind (arith, e)

-- the row of a text that is the first of these
own : (row : List ℕ → ℕ) (i : ℕ) (r : Spelling) (rs : List Spelling) (text : List ℕ) → home row i (r ∷ rs) ≡ true → pointwise nat_eq r.text text ≡ true → row text ≡ i
own row i r rs text h e =
    let p : (nat_eq (row r.text) i ≡ true) × (home row (i + 1) rs ≡ true) = and_parts (nat_eq (row r.text) i) (home row (i + 1) rs) h in
    sym (ap row ((bytes_eq-Decides r.text text).0 e)) ∙ nat_same (row r.text) i p.0

others : (row : List ℕ → ℕ) (i : ℕ) (r : Spelling) (rs : List Spelling) → home row i (r ∷ rs) ≡ true → home row (i + 1) rs ≡ true
others row i r rs h = (and_parts (nat_eq (row r.text) i) (home row (i + 1) rs) h).1

early : (n i : ℕ) → n < i → n ≡ i → ⊥
early n i l e = grind (arith, l, e)

later : (n i : ℕ) → n < i → n < i + 1
later n i l = grind (arith, l)

next : (n i : ℕ) → n ≡ i + 0 → n < i + 1
next n i e = grind (arith, e)

apart : (n i d : ℕ) → n ≡ i + suc d → n ≡ i → ⊥
apart n i d e f = grind (arith, e, f)

moved : (n i d : ℕ) → n ≡ i + suc d → n ≡ i + 1 + d
moved n i d e = grind (arith, e)

from_zero : (n : ℕ) → n ≡ 0 + n
from_zero n = grind arith

passes : (b : Bool) (s found other : Sort) → (b ≡ true → ⊥) → found ≡ other → cond b s found ≡ other
passes true s found other n e = absurd (n refl)
passes false s found other n e = e

-- a text whose row is before these isn't among them
before : (row : List ℕ → ℕ) (i : ℕ) (rs : List Spelling) (text : List ℕ) (other : Sort) → home row i rs ≡ true → row text < i → find rs text other ≡ other
before row i [] text other h l = refl
before row i (r ∷ rs) text other h l =
    passes (pointwise nat_eq r.text text) r.sort (find rs text other) other (λ e. early (row text) i l (own row i r rs text h e)) (before row (i + 1) rs text other (others row i r rs h) (later (row text) i l))

ends : (b : Bool) (s found other : Sort) → found ≡ other → cond b s found ≡ cond b s other
ends b s found other e = ap (λ (v : Sort). cond b s v) e

-- else its row has it, if any has
at_row : (row : List ℕ → ℕ) (i d : ℕ) (rs : List Spelling) (text : List ℕ) (other : Sort)
    → home row i rs ≡ true → row text ≡ i + d → find rs text other ≡ row_of (slice_get rs d) text other
at_row row i d [] text other h e = refl
at_row row i zero (r ∷ rs) text other h e =
    ends (pointwise nat_eq r.text text) r.sort (find rs text other) other (before row (i + 1) rs text other (others row i r rs h) (next (row text) i e))
at_row row i (suc d) (r ∷ rs) text other h e =
    passes (pointwise nat_eq r.text text) r.sort (find rs text other) (row_of (slice_get rs d) text other) (λ s. apart (row text) i d e (own row i r rs text h s))
    (at_row row (i + 1) d rs text other (others row i r rs h) (moved (row text) i d e))

keywords_home : home (λ text. row_at keyword_rows (keyword_slot text)) 0 keywords ≡ true
unfolding keyword_rows keywords
keywords_home = refl

punctuators_home : home (λ text. row_at punctuator_rows (punctuator_slot text)) 0 punctuators ≡ true
unfolding punctuator_rows punctuators
punctuators_home = refl

pub keyword_found : (text : List ℕ) (other : Sort) → find keywords text other ≡ row_of (slice_get keywords (row_at keyword_rows (keyword_slot text))) text other
keyword_found text other = at_row (λ text. row_at keyword_rows (keyword_slot text)) 0 (row_at keyword_rows (keyword_slot text)) keywords text other keywords_home (from_zero (row_at keyword_rows (keyword_slot text)))

pub punctuator_found : (text : List ℕ) (other : Sort) → find punctuators text other ≡ row_of (slice_get punctuators (row_at punctuator_rows (punctuator_slot text))) text other
punctuator_found text other = at_row (λ text. row_at punctuator_rows (punctuator_slot text)) 0 (row_at punctuator_rows (punctuator_slot text)) punctuators text other punctuators_home (from_zero (row_at punctuator_rows (punctuator_slot text)))

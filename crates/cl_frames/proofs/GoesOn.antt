-- A part of a frame is one: some bytes after it make it whole.
use Rattle.std.proofs.Common.{◌≡◌, ◌≢◌, ◌<◌, ◌≤◌, ◌&&◌, nat_le, nat_lt, length, zero, suc, arith, ℕ, ◌+◌, ◌-◌, ◌*◌, List, [], ◌∷◌, ◌++◌, take, Bool, true, false, refl, ◌∙◌, inl, inr, codes, length-append}
use Rattle.std.proofs.lemmas.Bool.{le-leb, eq-eqb, ne_eqb}
use Rattle.std.proofs.lemmas.Bool.Decides.{eqb_tells}
use Rattle.cl_frames.specs.Frames.{First, whole, cut, wrong, after, length_from, body_from, first, is_digit}
use Rattle.cl_frames.proofs.FrameLemmas.{digits_end, no_digit}

-- some bytes after these make a whole frame
pub record GoesOn (next : List ℕ → First) (xs : List ℕ) : Type 0 where
  pub more : List ℕ
  pub body : List ℕ
  pub count : ℕ
  pub is : next (xs ++ more) ≡ whole body count

zeros : ℕ → List ℕ
zeros zero = []
zeros (suc n) = 0 ∷ zeros n

length-zeros : (n : ℕ) → length (zeros n) ≡ n
unfolding zeros
length-zeros zero = refl
length-zeros (suc n) = omega (arith, length-zeros n)

body_goes : (digits size : ℕ) (xs : List ℕ) → GoesOn (body_from digits size) xs
body_goes digits size xs =
    let more = zeros (size - length xs) in
    let room : size ≤ length (xs ++ more) = omega (arith, length-append xs more, length-zeros (size - length xs)) in
    record { more = more; body = take size (xs ++ more); count = 20 + digits + size; is = rw (le-leb size (length (xs ++ more)) room) refl }

after_starts : (front : List ℕ) (next : List ℕ → First) → GoesOn next [] → GoesOn (after front next) []
unfolding after
after_starts [] next g = record { more = g.more; body = g.body; count = g.count; is = g.is }
after_starts (a ∷ front) next g =
    let r = after_starts front next g in record { more = a ∷ r.more; body = r.body; count = r.count; is = rw (eq-eqb a a refl) r.is }

after_goes : (front : List ℕ) (next : List ℕ → First) → GoesOn next [] → ((ys : List ℕ) → next ys ≢ wrong → GoesOn next ys)
    → (xs : List ℕ) → after front next xs ≢ wrong → GoesOn (after front next) xs
unfolding after
after_goes [] next g k xs n = let r = k xs n in record { more = r.more; body = r.body; count = r.count; is = r.is }
after_goes (a ∷ front) next g k [] n = after_starts (a ∷ front) next g
after_goes (a ∷ front) next g k (b ∷ xs) n =
    elim (eqb_tells b a) [
      | inl p ↦ let r = after_goes front next g k xs (λ e. n (rw p.0 e)) in record { more = r.more; body = r.body; count = r.count; is = rw p.0 r.is }
      | inr q ↦ absurd (n (rw q.0 refl))
    ]

digit_step : (digits value b : ℕ) (rest : List ℕ) → is_digit b ≡ true → nat_lt digits 8 && nat_le (value * 10 + (b - 48)) 67108864 ≡ true
    → length_from digits value (b ∷ rest) ≡ length_from (digits + 1) (value * 10 + (b - 48)) rest
unfolding length_from
digit_step digits value b rest d e = rw (d, e) refl

digit_wrong : (digits value b : ℕ) (rest : List ℕ) → is_digit b ≡ true → nat_lt digits 8 && nat_le (value * 10 + (b - 48)) 67108864 ≡ false
    → length_from digits value (b ∷ rest) ≡ wrong
unfolding length_from
digit_wrong digits value b rest d e = rw (d, e) refl

digit_goes : (digits value b : ℕ) (xs : List ℕ) → is_digit b ≡ true → length_from digits value (b ∷ xs) ≢ wrong
    → (length_from (digits + 1) (value * 10 + (b - 48)) xs ≢ wrong → GoesOn (length_from (digits + 1) (value * 10 + (b - 48))) xs)
    → (t : Bool) → nat_lt digits 8 && nat_le (value * 10 + (b - 48)) 67108864 ≡ t → GoesOn (length_from digits value) (b ∷ xs)
digit_goes digits value b xs d n k true e =
    let r = k (λ w. n (digit_step digits value b xs d e ∙ w)) in
    record { more = r.more; body = r.body; count = r.count; is = digit_step digits value b (xs ++ r.more) d e ∙ r.is }
digit_goes digits value b xs d n k false e = absurd (n (digit_wrong digits value b xs d e))

length_starts : (digits value : ℕ) → 0 < digits → GoesOn (length_from digits value) []
unfolding length_from after
length_starts digits value z =
    let some : digits ≢ 0 = λ e. omega arith in
    let r = body_goes digits value [] in
    record { more = 13 ∷ 10 ∷ 13 ∷ 10 ∷ r.more; body = r.body; count = r.count; is = rw (ne_eqb digits 0 some) r.is }

length_by : (digits value b : ℕ) (xs : List ℕ) → 0 < digits → length_from digits value (b ∷ xs) ≢ wrong
    → (length_from (digits + 1) (value * 10 + (b - 48)) xs ≢ wrong → GoesOn (length_from (digits + 1) (value * 10 + (b - 48))) xs)
    → (t : Bool) → is_digit b ≡ t → GoesOn (length_from digits value) (b ∷ xs)
length_by digits value b xs z n k true d = digit_goes digits value b xs d n k (nat_lt digits 8 && nat_le (value * 10 + (b - 48)) 67108864) refl
length_by digits value b xs z n k false d =
    let some : digits ≢ 0 = λ e. omega arith in
    let r = after_goes (codes "\r\n\r\n") (body_from digits value) (body_goes digits value []) (λ ys _. body_goes digits value ys) (b ∷ xs)
    (λ w. n (digits_end digits value b xs d some ∙ w)) in
    record { more = r.more; body = r.body; count = r.count; is = digits_end digits value b (xs ++ r.more) d some ∙ r.is }

length_goes : (xs : List ℕ) (digits value : ℕ) → 0 < digits → length_from digits value xs ≢ wrong → GoesOn (length_from digits value) xs
length_goes [] digits value z n = length_starts digits value z
length_goes (b ∷ xs) digits value z n =
    length_by digits value b xs z n (length_goes xs (digits + 1) (value * 10 + (b - 48)) (omega arith)) (is_digit b) refl

first_by : (b : ℕ) (xs : List ℕ) → length_from 0 0 (b ∷ xs) ≢ wrong → (t : Bool) → is_digit b ≡ t → GoesOn (length_from 0 0) (b ∷ xs)
first_by b xs n true d =
    digit_goes 0 0 b xs d n (length_goes xs (0 + 1) (0 * 10 + (b - 48)) (omega arith)) (nat_lt 0 8 && nat_le (0 * 10 + (b - 48)) 67108864) refl
first_by b xs n false d = absurd (n (no_digit 0 0 b xs d refl))

first_length : GoesOn (length_from 0 0) []
unfolding length_from
first_length =
    let r = length_starts 1 0 (omega arith) in record { more = 48 ∷ r.more; body = r.body; count = r.count; is = r.is }

first_length_goes : (xs : List ℕ) → length_from 0 0 xs ≢ wrong → GoesOn (length_from 0 0) xs
first_length_goes [] n = first_length
first_length_goes (b ∷ xs) n = first_by b xs n (is_digit b) refl

pub first_goes : (xs : List ℕ) → first xs ≡ cut → GoesOn first xs
unfolding first
first_goes xs e =
    let r = after_goes (codes "Content-Length: ") (length_from 0 0) first_length first_length_goes xs (λ w. let bad : ⊥ = cc in bad) in
    record { more = r.more; body = r.body; count = r.count; is = r.is }

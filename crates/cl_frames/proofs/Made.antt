-- A header of a body's length, and the body, are a frame.
use Rattle.std.proofs.Common.{◌≡◌, ◌≢◌, ◌<◌, ◌≤◌, length, arith, rules, ℕ, ◌+◌, ◌-◌, ◌*◌, ◌^◌, List, [], ◌∷◌, ◌++◌, refl, sym, ◌∙◌, ap, codes, append_assoc, append-nil}
use Rattle.std.specs.Fmt.{decimal}
use Rattle.std.proofs.lemmas.Fmt.{digits_decimal, digits_value-decimal, length-decimal-le, decimal_nonempty}
use Rattle.std.proofs.lemmas.Str.Parse.{IsNumeralModel, numerals_by_fold}
use Rattle.std.proofs.lemmas.Bool.{eq-eqb}
use Rattle.cl_frames.specs.Frames.{First, whole, after, length_from, body_from, first}
use Rattle.cl_frames.proofs.FrameLemmas.{digit_more, digits_end, body_whole}

abbrev pub AllDigits : List ℕ → Type 0
AllDigits [] = Unit {0}
AllDigits (c ∷ cs) = ((48 ≤ c) × (c ≤ 57)) × AllDigits cs

abbrev pub value_after : ℕ → List ℕ → ℕ
value_after n [] = n
value_after n (c ∷ cs) = value_after (n * 10 + (c - 48)) cs

own : IsNumeralModel AllDigits (value_after 0)
own = numerals_by_fold _ (search rules) value_after (search rules)

value_grows : (cs : List ℕ) (n : ℕ) → n ≤ value_after n cs
value_grows [] n = omega arith
value_grows (c ∷ cs) n = omega (arith, value_grows cs (n * 10 + (c - 48)))

pub digits_read : (ds tail : List ℕ) (digits value : ℕ) → AllDigits ds → digits + length ds ≤ 8 → value_after value ds ≤ 67108864
    → length_from digits value (ds ++ tail) ≡ length_from (digits + length ds) (value_after value ds) tail
digits_read [] tail digits value p few h =
    let same : digits ≡ digits + 0 = omega arith in ap (λ (k : ℕ). length_from k value tail) same
digits_read (c ∷ ds) tail digits value p few h =
    let more = value * 10 + (c - 48) in
    let below : digits < 8 = omega arith in
    let fits : more ≤ 67108864 = omega (arith, value_grows ds more) in
    let left : digits + 1 + length ds ≤ 8 = omega arith in
    let same : digits + 1 + length ds ≡ digits + length (c ∷ ds) = omega arith in
    digit_more digits value c (ds ++ tail) p.0.0 p.0.1 below fits ∙ digits_read ds tail (digits + 1) more p.1 left h
    ∙ ap (λ (k : ℕ). length_from k (value_after more ds) tail) same

pub front_read : (front : List ℕ) (next : List ℕ → First) (xs : List ℕ) → after front next (front ++ xs) ≡ next xs
unfolding after
front_read [] next xs = refl
front_read (a ∷ front) next xs = rw (eq-eqb a a refl) (front_read front next xs)

pub name_read : (xs : List ℕ) → first (codes "Content-Length: " ++ xs) ≡ length_from 0 0 xs
unfolding first
name_read xs = front_read (codes "Content-Length: ") (length_from 0 0) xs

pub made_whole : (body : List ℕ) → length body ≤ 67108864
    → first (codes "Content-Length: " ++ decimal (length body) ++ codes "\r\n\r\n" ++ body) ≡ whole body (20 + length (decimal (length body)) + length body)
made_whole body h =
    let n = length body in
    let ds = decimal n in
    let name = codes "Content-Length: " in
    let ends = codes "\r\n\r\n" in
    let small : n < 2 ^ 64 = omega arith in
    let short : n < 10 ^ 8 = omega arith in
    let few : 0 + length ds ≤ 8 = omega (arith, length-decimal-le 8 n (omega arith) short small) in
    let value : value_after 0 ds ≡ n = digits_value-decimal own n small in
    let fits : value_after 0 ds ≤ 67108864 = omega arith in
    let some : length ds ≢ 0 = λ e. omega (arith, decimal_nonempty n small) in
    let count : 0 + length ds ≡ length ds = omega arith in
    ap first (append_assoc (name ++ ds) ends body ∙ append_assoc name ds (ends ++ body)) ∙ name_read (ds ++ (ends ++ body))
    ∙ digits_read ds (ends ++ body) 0 0 (digits_decimal own n small) few fits
    ∙ ap (λ (k : ℕ). length_from k (value_after 0 ds) (ends ++ body)) count ∙ ap (λ (v : ℕ). length_from (length ds) v (ends ++ body)) value
    ∙ digits_end (length ds) n 13 (10 ∷ 13 ∷ 10 ∷ body) refl some ∙ front_read ends (body_from (length ds) n) body
    ∙ ap (body_from (length ds) n) (sym (append-nil body)) ∙ body_whole (length ds) n body [] refl

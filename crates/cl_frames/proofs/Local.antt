-- A whole frame is one by its own bytes, whatever stands behind it.
use Rattle.std.proofs.Common.{◌≡◌, ◌≤◌, ◌&&◌, ◌==◌, nat_le, nat_lt, length, zero, suc, arith, ℕ, ◌+◌, ◌-◌, ◌*◌, List, [], ◌∷◌, take, Bool, true, false, if◌then◌else◌, refl, sym, ◌∙◌, ap, codes}
use Rattle.std.proofs.lemmas.Bool.{le-leb, leb-true}
use Rattle.std.proofs.lemmas.List.{take-take, length-take-le}
use Rattle.cl_frames.specs.Frames.{First, whole, cut, wrong, after, length_from, body_from, first, is_digit}

-- with k bytes before, a frame of n bytes is one by these bytes as far as it goes
record Local (k : ℕ) (next : List ℕ → First) (bytes body : List ℕ) (n : ℕ) : Type 0 where
  front : k ≤ n
  same : (m : ℕ) → k + m ≡ n → next (take m bytes) ≡ whole body n

never_cut : (P : Type 0) (body : List ℕ) (n : ℕ) → cut ≡ whole body n → P
never_cut P body n e = let clash : ⊥ = cc in absurd clash

never_wrong : (P : Type 0) (body : List ℕ) (n : ℕ) → wrong ≡ whole body n → P
never_wrong P body n e = let clash : ⊥ = cc in absurd clash

one_more : (next : List ℕ → First) (b : ℕ) (xs body : List ℕ) (n k : ℕ) → k + 1 ≤ n
    → ((m : ℕ) → k + 1 + m ≡ n → next (b ∷ take m xs) ≡ whole body n) → (m : ℕ) → k + m ≡ n → next (take m (b ∷ xs)) ≡ whole body n
one_more next b xs body n k l h zero e = let clash : ⊥ = omega arith in absurd clash
one_more next b xs body n k l h (suc m) e = h m (omega arith)

-- one byte that is passed, and then the rest
passed : (next rest : List ℕ → First) (b : ℕ) (xs body : List ℕ) (n k j : ℕ) → j ≡ k + 1 → ((ys : List ℕ) → next (b ∷ ys) ≡ rest ys)
    → Local j rest xs body n → Local k next (b ∷ xs) body n
passed next rest b xs body n k j s eq r =
    let room : k + 1 ≤ n = omega (arith, r.front) in
    record { front = omega arith; same = one_more next b xs body n k room (λ m e. eq (take m xs) ∙ r.same m (omega arith)) }

after_like : (a b : ℕ) (front : List ℕ) (next : List ℕ → First) (rest : List ℕ) → (b == a) ≡ true → after (a ∷ front) next (b ∷ rest) ≡ after front next rest
unfolding after
after_like a b front next rest e = rw e refl

after_unlike : (a b : ℕ) (front : List ℕ) (next : List ℕ → First) (rest : List ℕ) → (b == a) ≡ false → after (a ∷ front) next (b ∷ rest) ≡ wrong
unfolding after
after_unlike a b front next rest e = rw e refl

after_by : (a b : ℕ) (front : List ℕ) (next : List ℕ → First) (xs body : List ℕ) (n k : ℕ)
    → (after front next xs ≡ whole body n → Local (k + 1) (after front next) xs body n) → (t : Bool) → (b == a) ≡ t
    → after (a ∷ front) next (b ∷ xs) ≡ whole body n → Local k (after (a ∷ front) next) (b ∷ xs) body n
after_by a b front next xs body n k r true t e =
    passed (after (a ∷ front) next) (after front next) b xs body n k (k + 1) refl (λ ys. after_like a b front next ys t)
    (r (sym (after_like a b front next xs t) ∙ e))
after_by a b front next xs body n k r false t e = never_wrong _ body n (sym (after_unlike a b front next xs t) ∙ e)

after_local : (front : List ℕ) (next : List ℕ → First) (xs body : List ℕ) (n k j : ℕ) → j ≡ k + length front
    → ((ys : List ℕ) → next ys ≡ whole body n → Local j next ys body n) → after front next xs ≡ whole body n → Local k (after front next) xs body n
unfolding after
after_local [] next xs body n k j s c e =
    let h = c xs e in record { front = omega (arith, h.front); same = λ m q. h.same m (omega arith) }
after_local (a ∷ front) next [] body n k j s c e = never_cut _ body n e
after_local (a ∷ front) next (b ∷ xs) body n k j s c e =
    after_by a b front next xs body n k (after_local front next xs body n (k + 1) j (omega arith) c) (b == a) refl e

body_same : (digits size m : ℕ) (xs body : List ℕ) (n : ℕ) → size ≤ length xs → m ≡ size → whole (take size xs) (20 + digits + size) ≡ whole body n
    → body_from digits size (take m xs) ≡ whole body n
body_same digits size m xs body n room same e =
    let short : size ≤ m = omega arith in
    let long : size ≤ length (take m xs) = omega (arith, length-take-le m xs (omega arith)) in
    rw (le-leb size (length (take m xs)) long) (ap (λ (v : List ℕ). whole v (20 + digits + size)) (take-take size m xs short) ∙ e)

body_by : (digits size : ℕ) (xs body : List ℕ) (n : ℕ) (t : Bool) → nat_le size (length xs) ≡ t
    → (if t then whole (take size xs) (20 + digits + size) else cut) ≡ whole body n → Local (20 + digits) (body_from digits size) xs body n
body_by digits size xs body n true t e =
    let room : size ≤ length xs = leb-true size (length xs) t in
    let all : take size xs ≡ body = cc in
    let count : 20 + digits + size ≡ n = cc in
    record { front = omega arith; same = λ m q. body_same digits size m xs body n room (omega arith) e }
body_by digits size xs body n false t e = never_cut _ body n e

body_local : (digits size : ℕ) (xs body : List ℕ) (n : ℕ) → body_from digits size xs ≡ whole body n → Local (20 + digits) (body_from digits size) xs body n
body_local digits size xs body n e = body_by digits size xs body n (nat_le size (length xs)) refl e

-- ---- a length

digit_next : (digits value b : ℕ) (ys : List ℕ) → is_digit b ≡ true → nat_lt digits 8 && nat_le (value * 10 + (b - 48)) 67108864 ≡ true
    → length_from digits value (b ∷ ys) ≡ length_from (digits + 1) (value * 10 + (b - 48)) ys
unfolding length_from
digit_next digits value b ys d e = rw (d, e) refl

digit_none : (digits value b : ℕ) (ys : List ℕ) → is_digit b ≡ true → nat_lt digits 8 && nat_le (value * 10 + (b - 48)) 67108864 ≡ false
    → length_from digits value (b ∷ ys) ≡ wrong
unfolding length_from
digit_none digits value b ys d e = rw (d, e) refl

no_digits : (digits value b : ℕ) (ys : List ℕ) → is_digit b ≡ false → (digits == 0) ≡ true → length_from digits value (b ∷ ys) ≡ wrong
unfolding length_from
no_digits digits value b ys d e = rw (d, e) refl

digits_ended : (digits value b : ℕ) (ys : List ℕ) → is_digit b ≡ false → (digits == 0) ≡ false
    → length_from digits value (b ∷ ys) ≡ after (codes "\r\n\r\n") (body_from digits value) (b ∷ ys)
unfolding length_from
digits_ended digits value b ys d e = rw (d, e) refl

digit_by : (digits value b : ℕ) (xs body : List ℕ) (n : ℕ) → is_digit b ≡ true
    → (length_from (digits + 1) (value * 10 + (b - 48)) xs ≡ whole body n
    → Local (16 + (digits + 1)) (length_from (digits + 1) (value * 10 + (b - 48))) xs body n)
    → (t : Bool) → nat_lt digits 8 && nat_le (value * 10 + (b - 48)) 67108864 ≡ t
    → length_from digits value (b ∷ xs) ≡ whole body n → Local (16 + digits) (length_from digits value) (b ∷ xs) body n
digit_by digits value b xs body n d r true t e =
    passed (length_from digits value) (length_from (digits + 1) (value * 10 + (b - 48))) b xs body n (16 + digits) (16 + (digits + 1)) (omega arith)
    (λ ys. digit_next digits value b ys d t) (r (sym (digit_next digits value b xs d t) ∙ e))
digit_by digits value b xs body n d r false t e = never_wrong _ body n (sym (digit_none digits value b xs d t) ∙ e)

nothing_after : (next : List ℕ → First) (xs body : List ℕ) (n : ℕ) → after (codes "\r\n\r\n") next (take zero xs) ≡ whole body n → ⊥
unfolding after
nothing_after next xs body n e = never_cut ⊥ body n e

end_same : (digits value b : ℕ) (xs body : List ℕ) (n : ℕ) → is_digit b ≡ false → (digits == 0) ≡ false → (m : ℕ)
    → after (codes "\r\n\r\n") (body_from digits value) (take m (b ∷ xs)) ≡ whole body n → length_from digits value (take m (b ∷ xs)) ≡ whole body n
end_same digits value b xs body n d t zero e = absurd (nothing_after (body_from digits value) (b ∷ xs) body n e)
end_same digits value b xs body n d t (suc m) e = digits_ended digits value b (take m xs) d t ∙ e

end_by : (digits value b : ℕ) (xs body : List ℕ) (n : ℕ) → is_digit b ≡ false → (t : Bool) → (digits == 0) ≡ t
    → length_from digits value (b ∷ xs) ≡ whole body n → Local (16 + digits) (length_from digits value) (b ∷ xs) body n
end_by digits value b xs body n d true t e = never_wrong _ body n (sym (no_digits digits value b xs d t) ∙ e)
end_by digits value b xs body n d false t e =
    let r = after_local (codes "\r\n\r\n") (body_from digits value) (b ∷ xs) body n (16 + digits) (20 + digits) (omega arith)
    (λ ys h. body_local digits value ys body n h) (sym (digits_ended digits value b xs d t) ∙ e) in
    record { front = r.front; same = λ m q. end_same digits value b xs body n d t m (r.same m q) }

length_by : (digits value b : ℕ) (xs body : List ℕ) (n : ℕ)
    → (length_from (digits + 1) (value * 10 + (b - 48)) xs ≡ whole body n
    → Local (16 + (digits + 1)) (length_from (digits + 1) (value * 10 + (b - 48))) xs body n)
    → (t : Bool) → is_digit b ≡ t → length_from digits value (b ∷ xs) ≡ whole body n → Local (16 + digits) (length_from digits value) (b ∷ xs) body n
length_by digits value b xs body n r true d e =
    digit_by digits value b xs body n d r (nat_lt digits 8 && nat_le (value * 10 + (b - 48)) 67108864) refl e
length_by digits value b xs body n r false d e = end_by digits value b xs body n d (digits == 0) refl e

length_nil : (digits value : ℕ) → length_from digits value [] ≡ cut
unfolding length_from
length_nil digits value = refl

length_local : (xs : List ℕ) (digits value : ℕ) (body : List ℕ) (n : ℕ) → length_from digits value xs ≡ whole body n
    → Local (16 + digits) (length_from digits value) xs body n
length_local [] digits value body n e = never_cut _ body n (sym (length_nil digits value) ∙ e)
length_local (b ∷ xs) digits value body n e =
    length_by digits value b xs body n (length_local xs (digits + 1) (value * 10 + (b - 48)) body n) (is_digit b) refl e

pub first_local : (xs body : List ℕ) (n : ℕ) → first xs ≡ whole body n → first (take n xs) ≡ whole body n
unfolding first
first_local xs body n e =
    (after_local (codes "Content-Length: ") (length_from 0 0) xs body n 0 16 refl (λ ys h. length_local ys 0 0 body n h) e).same n (omega arith)

-- What bytes begin with stays so, whatever comes after them.
use Rattle.std.proofs.Common.{◌≡◌, ◌≢◌, ◌≤◌, ◌&&◌, ◌==◌, nat_le, nat_lt, length, arith, ℕ, ◌+◌, ◌-◌, ◌*◌, List, [], ◌∷◌, ◌++◌, take, Bool, true, false, if◌then◌else◌, refl, sym, ◌∙◌, ap, codes, length-append, length-take-le}
use Rattle.std.proofs.lemmas.Bool.{le-leb, leb-true}
use Rattle.std.proofs.lemmas.List.{take-append-le}
use Rattle.cl_frames.specs.Frames.{First, whole, cut, wrong, after, length_from, body_from, first, is_digit}

-- bytes that begin with something still do so before further bytes
Keeps : First → (List ℕ → First) → Type 0
Keeps w next = (xs ys : List ℕ) → next xs ≡ w → next (xs ++ ys) ≡ w

either_keeps : (w : First) (t : Bool) (p q p' q' : First) → (p ≡ w → p' ≡ w) → (q ≡ w → q' ≡ w) → (if t then p else q) ≡ w → (if t then p' else q') ≡ w
either_keeps w true p q p' q' f g e = f e
either_keeps w false p q p' q' f g e = g e

after_keeps : (w : First) → cut ≢ w → (front : List ℕ) (next : List ℕ → First) → Keeps w next → Keeps w (after front next)
unfolding after Keeps
after_keeps w n [] next k = k
after_keeps w n (a ∷ front) next k = λ xs ys.
    elim xs as (λ (v : List ℕ). after (a ∷ front) next v ≡ w → after (a ∷ front) next (v ++ ys) ≡ w) [
      | [] ↦ λ e. absurd (n e)
      | b ∷ more ↦ λ e. either_keeps w (b == a) _ wrong _ wrong (after_keeps w n front next k more ys) (λ h. h) e
    ]

body_step : (w : First) → cut ≢ w → (digits size : ℕ) (xs ys : List ℕ) (t : Bool) → nat_le size (length xs) ≡ t
    → (if t then whole (take size xs) (20 + digits + size) else cut) ≡ w → body_from digits size (xs ++ ys) ≡ w
body_step w n digits size xs ys true e h =
    let room : size ≤ length xs = leb-true size (length xs) e in
    let more : size ≤ length (xs ++ ys) = omega (arith, length-append xs ys) in
    rw (le-leb size (length (xs ++ ys)) more) (ap (λ (v : List ℕ). whole v (20 + digits + size)) (take-append-le size xs ys room) ∙ h)
body_step w n digits size xs ys false e h = absurd (n h)

body_keeps : (w : First) → cut ≢ w → (digits size : ℕ) → Keeps w (body_from digits size)
unfolding Keeps
body_keeps w n digits size = λ xs ys. body_step w n digits size xs ys (nat_le size (length xs)) refl

length_keeps : (w : First) → cut ≢ w → (xs ys : List ℕ) (digits value : ℕ) → length_from digits value xs ≡ w → length_from digits value (xs ++ ys) ≡ w
unfolding length_from Keeps
length_keeps w n [] ys digits value e = absurd (n e)
length_keeps w n (b ∷ xs) ys digits value e =
    let more = value * 10 + (b - 48) in
    either_keeps w (is_digit b) _ _ _ _
    (either_keeps w (nat_lt digits 8 && nat_le more 67108864) _ wrong _ wrong (length_keeps w n xs ys (digits + 1) more) (λ h. h))
    (either_keeps w (digits == 0) wrong _ wrong _ (λ h. h) (after_keeps w n (codes "\r\n\r\n") (body_from digits value) (body_keeps w n digits value) (b ∷ xs) ys)) e

pub first_keeps : (w : First) → cut ≢ w → (xs ys : List ℕ) → first xs ≡ w → first (xs ++ ys) ≡ w
unfolding first Keeps
first_keeps w n = after_keeps w n (codes "Content-Length: ") (length_from 0 0) (λ xs ys. length_keeps w n xs ys 0 0)

pub whole_stays : (xs ys body : List ℕ) (n : ℕ) → first xs ≡ whole body n → first (xs ++ ys) ≡ whole body n
whole_stays xs ys body n = first_keeps (whole body n) (λ e. let bad : ⊥ = cc in bad) xs ys

pub wrong_stays : (xs ys : List ℕ) → first xs ≡ wrong → first (xs ++ ys) ≡ wrong
wrong_stays = first_keeps wrong (λ e. let bad : ⊥ = cc in bad)

-- a front of a part of a frame is one
front_cut : (xs ys : List ℕ) (v : First) → first xs ≡ v → first (xs ++ ys) ≡ cut → first xs ≡ cut
front_cut xs ys (whole body n) e h = let k = whole_stays xs ys body n e in let bad : ⊥ = cc in absurd bad
front_cut xs ys cut e h = e
front_cut xs ys wrong e h = let k = wrong_stays xs ys e in let bad : ⊥ = cc in absurd bad

pub cut_front : (xs ys : List ℕ) → first (xs ++ ys) ≡ cut → first xs ≡ cut
cut_front xs ys h = front_cut xs ys (first xs) refl h

-- ---- how long a frame is

-- k bytes and these have room for a whole frame, which is longer than k bytes and its body
record Counts (k : ℕ) (bytes body : List ℕ) (n : ℕ) : Type 0 where
  room : n ≤ k + length bytes
  front : k ≤ n
  more : length body + 20 ≤ n

either_counts : (t : Bool) (p q : First) (body bytes : List ℕ) (n k : ℕ) → (p ≡ whole body n → Counts k bytes body n)
    → (q ≡ whole body n → Counts k bytes body n) → (if t then p else q) ≡ whole body n → Counts k bytes body n
either_counts true p q body bytes n k f g e = f e
either_counts false p q body bytes n k f g e = g e

pub not_cut : (P : Type 0) (body : List ℕ) (n : ℕ) → cut ≡ whole body n → P
not_cut P body n e = let bad : ⊥ = cc in absurd bad

pub not_wrong : (P : Type 0) (body : List ℕ) (n : ℕ) → wrong ≡ whole body n → P
not_wrong P body n e = let bad : ⊥ = cc in absurd bad

one_more : (k j b : ℕ) (xs body : List ℕ) (n : ℕ) → j ≡ k + 1 → Counts j xs body n → Counts k (b ∷ xs) body n
one_more k j b xs body n s c = record { room = omega (arith, c.room); front = omega (arith, c.front); more = c.more }

after_counts : (front : List ℕ) (next : List ℕ → First) (xs body : List ℕ) (n k j : ℕ) → j ≡ k + length front
    → ((ys : List ℕ) → next ys ≡ whole body n → Counts j ys body n) → after front next xs ≡ whole body n → Counts k xs body n
unfolding after
after_counts [] next xs body n k j s c e =
    let h = c xs e in record { room = omega (arith, h.room); front = omega (arith, h.front); more = h.more }
after_counts (a ∷ front) next [] body n k j s c e = not_cut _ body n e
after_counts (a ∷ front) next (b ∷ xs) body n k j s c e =
    either_counts (b == a) (after front next xs) wrong body (b ∷ xs) n k
    (λ h. one_more k (k + 1) b xs body n refl (after_counts front next xs body n (k + 1) j (omega arith) c h)) (not_wrong _ body n) e

body_counted : (digits size : ℕ) (xs body : List ℕ) (n : ℕ) (t : Bool) → nat_le size (length xs) ≡ t
    → (if t then whole (take size xs) (20 + digits + size) else cut) ≡ whole body n → Counts (20 + digits) xs body n
body_counted digits size xs body n true e h =
    let room : size ≤ length xs = leb-true size (length xs) e in
    let all : take size xs ≡ body = cc in
    let count : 20 + digits + size ≡ n = cc in
    let long : length body ≡ size = sym (ap length all) ∙ length-take-le size xs room in
    record { room = omega arith; front = omega arith; more = omega arith }
body_counted digits size xs body n false e h = not_cut _ body n h

length_counts : (xs : List ℕ) (digits value : ℕ) (body : List ℕ) (n : ℕ) → length_from digits value xs ≡ whole body n → Counts (16 + digits) xs body n
unfolding length_from
length_counts [] digits value body n e = not_cut _ body n e
length_counts (b ∷ xs) digits value body n e =
    let more = value * 10 + (b - 48) in
    either_counts (is_digit b) _ _ body (b ∷ xs) n (16 + digits)
    (either_counts (nat_lt digits 8 && nat_le more 67108864) _ wrong body (b ∷ xs) n (16 + digits)
    (λ h. one_more (16 + digits) (16 + (digits + 1)) b xs body n (omega arith) (length_counts xs (digits + 1) more body n h)) (not_wrong _ body n))
    (either_counts (digits == 0) wrong _ body (b ∷ xs) n (16 + digits) (not_wrong _ body n)
    (after_counts (codes "\r\n\r\n") (body_from digits value) (b ∷ xs) body n (16 + digits) (20 + digits) (omega arith)
    (λ ys h. body_counted digits value ys body n (nat_le value (length ys)) refl h))) e

pub whole_counts : (xs body : List ℕ) (n : ℕ) → first xs ≡ whole body n → (n ≤ length xs) × (length body + 20 ≤ n)
unfolding first
whole_counts xs body n e =
    let c = after_counts (codes "Content-Length: ") (length_from 0 0) xs body n 0 16 refl (λ ys h. length_counts ys 0 0 body n h) e in
    (omega (arith, c.room), c.more)

-- What a whole frame says of the bytes that begin with it.
use Rattle.std.proofs.Common.{◌≡◌, ◌≢◌, ◌<◌, ◌≤◌, ◌&&◌, ◌==◌, nat_le, nat_lt, length, arith, ℕ, ◌+◌, ◌-◌, ◌*◌, List, [], ◌∷◌, ◌++◌, take, drop, Bool, true, false, if◌then◌else◌, refl, sym, ◌∙◌, ap, codes, length-take-le, inl, inr}
use Rattle.std.proofs.lemmas.Bool.{leb-true, ltb-true}
use Rattle.std.proofs.lemmas.Bool.Decides.{eqb_tells}
use Rattle.std.proofs.lemmas.List.{take-append-drop}
use Rattle.cl_frames.specs.Frames.{First, whole, cut, wrong, after, length_from, body_from, first, is_digit, are_digits, spelled, HasForm}
use Rattle.cl_frames.proofs.Stable.{not_cut, not_wrong}
use Rattle.cl_frames.proofs.FrameLemmas.{digits_end, body_whole}
use Rattle.cl_frames.proofs.Made.{AllDigits, value_after, digits_read, front_read, name_read}

both_true : (a b : Bool) → (a && b) ≡ true → (a ≡ true) × (b ≡ true)
both_true true b e = (refl, e)
both_true false b e = let bad : ⊥ = cc in absurd bad

-- what must stand there does, and then comes the rest
record Behind (front : List ℕ) (next : List ℕ → First) (xs body : List ℕ) (n : ℕ) : Type 0 where
  rest : List ℕ
  joined : xs ≡ front ++ rest
  tells : next rest ≡ whole body n

one_behind : (a b : ℕ) (front : List ℕ) (next : List ℕ → First) (xs body : List ℕ) (n : ℕ) → b ≡ a → Behind front next xs body n → Behind (a ∷ front) next (b ∷ xs) body n
one_behind a b front next xs body n e r =
    record { rest = r.rest; joined = ap (λ (c : ℕ). c ∷ xs) e ∙ ap (λ (w : List ℕ). a ∷ w) r.joined; tells = r.tells }

after_behind : (front : List ℕ) (next : List ℕ → First) (xs body : List ℕ) (n : ℕ) → after front next xs ≡ whole body n → Behind front next xs body n
unfolding after
after_behind [] next xs body n e = record { rest = xs; joined = refl; tells = e }
after_behind (a ∷ front) next [] body n e = not_cut _ body n e
after_behind (a ∷ front) next (b ∷ xs) body n e =
    elim (eqb_tells b a) [
      | inl p ↦ one_behind a b front next xs body n p.1 (after_behind front next xs body n (rw p.0 at e))
      | inr q ↦ not_wrong _ body n (rw q.0 at e)
    ]

-- a body, and what comes after it
record Held (digits size : ℕ) (xs body : List ℕ) (n : ℕ) : Type 0 where
  joined : xs ≡ body ++ drop size xs
  long : length body ≡ size
  count : n ≡ 20 + digits + size

body_by : (digits size : ℕ) (xs body : List ℕ) (n : ℕ) (t : Bool) → nat_le size (length xs) ≡ t
    → (if t then whole (take size xs) (20 + digits + size) else cut) ≡ whole body n → Held digits size xs body n
body_by digits size xs body n true e h =
    let room : size ≤ length xs = leb-true size (length xs) e in
    let all : take size xs ≡ body = cc in
    let count : 20 + digits + size ≡ n = cc in
    record {
      joined = sym (take-append-drop size xs) ∙ ap (λ (w : List ℕ). w ++ drop size xs) all;
      long = sym (ap length all) ∙ length-take-le size xs room;
      count = sym count;
    }
body_by digits size xs body n false e h = not_cut _ body n h

-- the rest of a length, and what comes after it
record Spells (digits value : ℕ) (xs body : List ℕ) (n : ℕ) : Type 0 where
  more : List ℕ
  rest : List ℕ
  are : are_digits more ≡ true
  some : 0 < digits + length more
  few : digits + length more ≤ 8
  spell : spelled value more ≡ length body
  small : length body ≤ 67108864
  joined : xs ≡ more ++ (codes "\r\n\r\n" ++ (body ++ rest))
  count : n ≡ 20 + (digits + length more) + length body

ends : (digits value : ℕ) (xs body : List ℕ) (n : ℕ) → digits ≢ 0 → digits ≤ 8 → value ≤ 67108864
    → after (codes "\r\n\r\n") (body_from digits value) xs ≡ whole body n → Spells digits value xs body n
ends digits value xs body n some few small e =
    let b = after_behind (codes "\r\n\r\n") (body_from digits value) xs body n e in
    let h = body_by digits value b.rest body n (nat_le value (length b.rest)) refl b.tells in
    let long = h.long in
    let count = h.count in
    record {
      more = [];
      rest = drop value b.rest;
      are = refl;
      some = omega arith;
      few = omega arith;
      spell = sym long;
      small = omega arith;
      joined = b.joined ∙ ap (λ (w : List ℕ). codes "\r\n\r\n" ++ w) h.joined;
      count = omega arith;
    }

one_digit : (digits value b : ℕ) (xs body : List ℕ) (n : ℕ) → is_digit b ≡ true → Spells (digits + 1) (value * 10 + (b - 48)) xs body n → Spells digits value (b ∷ xs) body n
one_digit digits value b xs body n d r = record {
  more = b ∷ r.more;
  rest = r.rest;
  are = rw d r.are;
  some = omega arith;
  few = omega (arith, r.few);
  spell = r.spell;
  small = r.small;
  joined = ap (λ (w : List ℕ). b ∷ w) r.joined;
  count = omega (arith, r.count);
}

-- the cases of a digit, and of what ends a length
by_limit : (digits value b : ℕ) (xs body : List ℕ) (n : ℕ) (t : Bool) → is_digit b ≡ true
    → nat_lt digits 8 && nat_le (value * 10 + (b - 48)) 67108864 ≡ t
    → (digits + 1 ≤ 8 → value * 10 + (b - 48) ≤ 67108864 → length_from (digits + 1) (value * 10 + (b - 48)) xs ≡ whole body n → Spells (digits + 1) (value * 10 + (b - 48)) xs body n)
    → (if t then length_from (digits + 1) (value * 10 + (b - 48)) xs else wrong) ≡ whole body n → Spells digits value (b ∷ xs) body n
by_limit digits value b xs body n true d e k h =
    let both = both_true _ _ e in
    let less : digits < 8 = ltb-true digits 8 both.0 in
    one_digit digits value b xs body n d (k (omega arith) (leb-true _ _ both.1) h)
by_limit digits value b xs body n false d e k h = not_wrong _ body n h

by_none : (digits value : ℕ) (xs body : List ℕ) (n : ℕ) (t : Bool) → (digits == 0) ≡ t → digits ≤ 8 → value ≤ 67108864
    → (if t then wrong else after (codes "\r\n\r\n") (body_from digits value) xs) ≡ whole body n → Spells digits value xs body n
by_none digits value xs body n true e few small h = not_wrong _ body n h
by_none digits value xs body n false e few small h =
    ends digits value xs body n (λ (z : digits ≡ 0). let same : (digits == 0) ≡ true = rw z refl in let bad : ⊥ = cc in bad) few small h

by_digit : (digits value b : ℕ) (xs body : List ℕ) (n : ℕ) (t : Bool) → is_digit b ≡ t → digits ≤ 8 → value ≤ 67108864
    → (digits + 1 ≤ 8 → value * 10 + (b - 48) ≤ 67108864 → length_from (digits + 1) (value * 10 + (b - 48)) xs ≡ whole body n → Spells (digits + 1) (value * 10 + (b - 48)) xs body n)
    → (if t then (if nat_lt digits 8 && nat_le (value * 10 + (b - 48)) 67108864 then length_from (digits + 1) (value * 10 + (b - 48)) xs else wrong)
    else (if digits == 0 then wrong else after (codes "\r\n\r\n") (body_from digits value) (b ∷ xs))) ≡ whole body n
    → Spells digits value (b ∷ xs) body n
by_digit digits value b xs body n true d few small k h = by_limit digits value b xs body n (nat_lt digits 8 && nat_le (value * 10 + (b - 48)) 67108864) d refl k h
by_digit digits value b xs body n false d few small k h = by_none digits value (b ∷ xs) body n (digits == 0) refl few small h

length_spells : (xs : List ℕ) (digits value : ℕ) (body : List ℕ) (n : ℕ) → digits ≤ 8 → value ≤ 67108864 → length_from digits value xs ≡ whole body n → Spells digits value xs body n
unfolding length_from
length_spells [] digits value body n few small e = not_cut _ body n e
length_spells (b ∷ xs) digits value body n few small e =
    by_digit digits value b xs body n (is_digit b) refl few small (length_spells xs (digits + 1) (value * 10 + (b - 48)) body n) e

pub whole_form : (bytes body : List ℕ) (n : ℕ) → first bytes ≡ whole body n → HasForm bytes body n
unfolding first
whole_form bytes body n e =
    let b = after_behind (codes "Content-Length: ") (length_from 0 0) bytes body n e in
    let r = length_spells b.rest 0 0 body n (omega arith) (omega arith) b.tells in
    record {
      digits = r.more;
      rest = r.rest;
      are = r.are;
      some = omega (arith, r.some);
      few = omega (arith, r.few);
      spell = r.spell;
      small = r.small;
      form = b.joined ∙ ap (λ (w : List ℕ). codes "Content-Length: " ++ w) r.joined;
      count = omega (arith, r.count);
    }

-- ---- bytes of this form begin with a whole frame

all_digits : (ds : List ℕ) → are_digits ds ≡ true → AllDigits ds
all_digits [] e = tt
all_digits (d ∷ ds) e =
    let digit = both_true (is_digit d) (are_digits ds) e in
    let within = both_true (nat_le 48 d) (nat_le d 57) digit.0 in
    ((leb-true 48 d within.0, leb-true d 57 within.1), all_digits ds digit.1)

same_value : (ds : List ℕ) (n : ℕ) → value_after n ds ≡ spelled n ds
same_value [] n = refl
same_value (d ∷ ds) n = same_value ds (n * 10 + (d - 48))

pub form_whole : (bytes body : List ℕ) (n : ℕ) → HasForm bytes body n → first bytes ≡ whole body n
form_whole bytes body n f =
    let ds = f.digits in
    let size = length body in
    let ends = codes "\r\n\r\n" in
    let tail = body ++ f.rest in
    let value : value_after 0 ds ≡ size = same_value ds 0 ∙ f.spell in
    let fits : value_after 0 ds ≤ 67108864 = omega (arith, f.small) in
    let few : 0 + length ds ≤ 8 = omega (arith, f.few) in
    let some : length ds ≢ 0 = λ e. omega (arith, f.some) in
    let count : 0 + length ds ≡ length ds = omega arith in
    ap first f.form ∙ name_read (ds ++ (ends ++ tail)) ∙ digits_read ds (ends ++ tail) 0 0 (all_digits ds f.are) few fits
    ∙ ap (λ (k : ℕ). length_from k (value_after 0 ds) (ends ++ tail)) count ∙ ap (λ (v : ℕ). length_from (length ds) v (ends ++ tail)) value
    ∙ digits_end (length ds) size 13 (10 ∷ 13 ∷ 10 ∷ tail) refl some ∙ front_read ends (body_from (length ds) size) tail
    ∙ body_whole (length ds) size body f.rest refl ∙ ap (whole body) (sym f.count)

-- How often a number stands in a list.
use Rattle.std.proofs.Common.{◌≡◌, ℕ, zero, suc, ◌+◌, ◌<◌, ◌≤◌, List, [], ◌∷◌, ◌++◌, length, filter, get_or, Bool, true, false, not, cond, refl, ap, ◌∙◌, arith, nat_eq, eq-eqb, eqb-true}
use Rattle.std.specs.Prelude.{Contains}
use Rattle.cl_history.specs.History.{without}

abbrev pub bit : Bool → ℕ
bit true = 1
bit false = 0

abbrev pub times : ℕ → List ℕ → ℕ
times n [] = 0
times n (m ∷ ms) = bit (nat_eq m n) + times n ms

pub bit_le : (b : Bool) → bit b ≤ 1
bit_le true = omega arith
bit_le false = omega arith

pub times_append : (n : ℕ) (xs ys : List ℕ) → times n (xs ++ ys) ≡ times n xs + times n ys
times_append n [] ys = omega arith
times_append n (x ∷ xs) ys = let more = times_append n xs ys in omega arith

kept_le : (b : Bool) (n m : ℕ) (xs ys : List ℕ) → times n xs ≤ times n ys → times n (cond b (m ∷ xs) xs) ≤ bit (nat_eq m n) + times n ys
kept_le true n m xs ys le = omega arith
kept_le false n m xs ys le = omega arith

pub times_filter : (p : ℕ → Bool) (n : ℕ) (ns : List ℕ) → times n (filter p ns) ≤ times n ns
times_filter p n [] = omega arith
times_filter p n (m ∷ ms) = kept_le (p m) n m (filter p ms) ms (times_filter p n ms)

gone_by : (b : Bool) (m k : ℕ) (rest : List ℕ) → nat_eq k m ≡ b → times m rest ≡ 0 → times m (cond (not b) (k ∷ rest) rest) ≡ 0
gone_by true m k rest e none = none
gone_by false m k rest e none = rw (e, none) refl

pub times_gone : (m : ℕ) (ns : List ℕ) → times m (without m ns) ≡ 0
times_gone m [] = refl
times_gone m (k ∷ ks) = gone_by (nat_eq k m) m k (without m ks) refl (times_gone m ks)

kept_by : (b : Bool) (m n k : ℕ) (rest all : List ℕ) → nat_eq k m ≡ b → nat_eq m n ≡ false → times n rest ≡ times n all
    → times n (cond (not b) (k ∷ rest) rest) ≡ bit (nat_eq k n) + times n all
kept_by true m n k rest all e apart same = rw (eqb-true k m e, apart) (same ∙ omega arith)
kept_by false m n k rest all e apart same = ap (λ (t : ℕ). bit (nat_eq k n) + t) same

pub times_kept : (m n : ℕ) (ns : List ℕ) → nat_eq m n ≡ false → times n (without m ns) ≡ times n ns
times_kept m n [] apart = refl
times_kept m n (k ∷ ks) apart = kept_by (nat_eq k m) m n k (without m ks) ks refl apart (times_kept m n ks apart)

found_at : (k m : ℕ) (ns : List ℕ) → k < length ns → get_or ns k m ≡ m → 1 ≤ times m ns
found_at k m [] lt e = absurd (omega arith)
found_at zero m (x ∷ xs) lt e = rw (e, eq-eqb m m refl) (omega arith)
found_at (suc k) m (x ∷ xs) lt e = let more = found_at k m xs (omega arith) e in omega arith

pub times_found : (m : ℕ) (ns : List ℕ) → Contains ns m → 1 ≤ times m ns
times_found m ns h = found_at h.0 m ns h.1 h.2

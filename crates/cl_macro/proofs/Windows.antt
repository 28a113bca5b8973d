-- Tokens in a row of a segment.
use Rattle.std.proofs.Common.{◌≡◌, ℕ, zero, suc, ◌+◌, ◌-◌, ◌≤◌, ◌<◌, List, [], ◌∷◌, ◌++◌, length, drop, take, map, Some, None, refl, sym, ap, ◌∙◌, arith}
use Rattle.std.specs.Prelude.{slice_range}
use Rattle.std.specs.List.{slice_get}
use Rattle.std.proofs.lemmas.List.{drop-drop, take-map, drop-map, take-take}
use Rattle.std.proofs.lemmas.Grind.{common_steps}
use Rattle.cl_macro.specs.declared.word.Word.{Word}
use Rattle.cl_macro.specs.Turns.{close_at}
use Rattle.cl_macro.specs.Words.{taken}
use Rattle.cl_macro.proofs.Closing.{close_front, close_front_none, close_cut}
use Rattle.cl_macro.proofs.Lists.{drop_past}

take_nil : (k : ℕ) → take k (let ws : List Word = [] in ws) ≡ []
take_nil zero = refl
take_nil (suc k) = refl

pub drop_take : (n m : ℕ) (ws : List Word) → drop n (take m ws) ≡ take (m - n) (drop n ws)
drop_take zero m ws = ap (λ k. take k ws) (let z : m ≡ m - 0 = omega arith in z)
drop_take (suc n) zero ws = sym (ap (λ k. take k (drop (suc n) ws)) (let z : 0 - suc n ≡ 0 = omega arith in z))
drop_take (suc n) (suc m) [] = sym (take_nil (suc m - suc n))
drop_take (suc n) (suc m) (w ∷ ws) = drop_take n m ws ∙ ap (λ k. take k (drop n ws)) (let z : m - n ≡ suc m - suc n = omega arith in z)

get_take : (xs : List Word) (n i : ℕ) → i < n → slice_get (take n xs) i ≡ slice_get xs i
get_take xs zero i h = absurd (omega arith)
get_take [] (suc n) i h = refl
get_take (x ∷ xs) (suc n) zero h = refl
get_take (x ∷ xs) (suc n) (suc i) h = get_take xs n i (omega arith)

get_nil : (i : ℕ) → slice_get (let ws : List Word = [] in ws) i ≡ None
get_nil i = refl

get_drop : (xs : List Word) (n i : ℕ) → slice_get (drop n xs) i ≡ slice_get xs (n + i)
get_drop xs zero i = ap (slice_get xs) (let z : i ≡ 0 + i = omega arith in z)
get_drop [] (suc n) i = sym (get_nil (suc n + i))
get_drop (x ∷ xs) (suc n) i = get_drop xs n i ∙ ap (slice_get (x ∷ xs)) (let z : suc (n + i) ≡ suc n + i = omega arith in z)

pub get_past : (xs : List Word) (i : ℕ) → length xs ≤ i → slice_get xs i ≡ None
get_past [] i h = refl
get_past (x ∷ xs) zero h = absurd (omega arith)
get_past (x ∷ xs) (suc i) h = get_past xs i (omega arith)

pub get_least : (xs : List Word) (i : ℕ) → slice_get xs i ≡ None → length xs ≤ i
get_least [] i e = omega arith
get_least (x ∷ xs) zero e = cc
get_least (x ∷ xs) (suc i) e = let h : length xs ≤ i = get_least xs i e in omega arith

pub range_taken : (ws : List Word) (from to : ℕ) → map taken ws ≡ ws → map taken (slice_range ws from to) ≡ slice_range ws from to
range_taken ws from to e = sym (take-map taken (to - from) (drop from ws)) ∙ ap (take (to - from)) (sym (drop-map taken from ws)) ∙ ap (λ xs. take (to - from) (drop from xs)) e

pub range_long : (ws : List Word) (from to : ℕ) → from ≤ to → to ≤ length ws → length (slice_range ws from to) ≡ to - from
range_long ws from to h k = grind (arith, common_steps)

pub range_get : (ws : List Word) (from to i : ℕ) → i < to - from → slice_get ws (from + i) ≡ slice_get (slice_range ws from to) i
range_get ws from to i h = sym (get_take (drop from ws) (to - from) i h ∙ get_drop ws from i)

pub range_past : (ws : List Word) (from to i : ℕ) → from ≤ to → to ≤ length ws → to - from ≤ i → None ≡ slice_get (slice_range ws from to) i
range_past ws from to i h k p = sym (get_past (slice_range ws from to) i (let z : length (slice_range ws from to) ≡ to - from = range_long ws from to h k in omega arith))

pub range_drop : (ws : List Word) (from to count : ℕ) → slice_range ws (from + count) to ≡ drop count (slice_range ws from to)
range_drop ws from to count = sym (drop_take count (to - from) (drop from ws) ∙ ap (take (to - from - count)) (drop-drop count from ws)
    ∙ ap (λ k. take k (drop (from + count) ws)) (let z : to - from - count ≡ to - (from + count) = omega arith in z))

pub range_range : (ws : List Word) (from to i j : ℕ) → i ≤ j → j ≤ to - from → slice_range ws (from + i) (from + j) ≡ slice_range (slice_range ws from to) i j
range_range ws from to i j h k = sym (ap (take (j - i)) (sym (range_drop ws from to i)) ∙ take-take (j - i) (to - (from + i)) (drop (from + i) ws) (omega arith)
    ∙ ap (λ n. take n (drop (from + i) ws)) (let z : j - i ≡ from + j - (from + i) = omega arith in z))

range_behind : (ws : List Word) (from to i : ℕ) → drop (i + 1) (slice_range ws from to) ≡ take (to - (from + i + 1)) (drop (from + i + 1) ws)
range_behind ws from to i = sym (range_drop ws from to (i + 1)) ∙ ap (λ n. take (to - n) (drop n ws)) (let z : from + (i + 1) ≡ from + i + 1 = omega arith in z)

pub group_none : (ws : List Word) (from to i : ℕ) → None ≡ close_at 0 (drop (from + i + 1) ws) → None ≡ close_at 0 (drop (i + 1) (slice_range ws from to))
group_none ws from to i e = sym (ap (close_at 0) (range_behind ws from to i) ∙ close_front_none 0 (to - (from + i + 1)) (drop (from + i + 1) ws) (sym e))

pub group_cut : (ws : List Word) (from to i n : ℕ) → Some n ≡ close_at 0 (drop (from + i + 1) ws) → to ≤ from + i + 1 + n → None ≡ close_at 0 (drop (i + 1) (slice_range ws from to))
group_cut ws from to i n e h = sym (ap (close_at 0) (range_behind ws from to i) ∙ close_cut 0 (to - (from + i + 1)) (drop (from + i + 1) ws) n (sym e) (omega arith))

pub group_is : (ws : List Word) (from to i n : ℕ) → Some n ≡ close_at 0 (drop (from + i + 1) ws) → from + i + 1 + n < to → Some n ≡ close_at 0 (drop (i + 1) (slice_range ws from to))
group_is ws from to i n e h = sym (ap (close_at 0) (range_behind ws from to i) ∙ close_front 0 (to - (from + i + 1)) (drop (from + i + 1) ws) n (sym e) (omega arith))

pub group_past : (ws : List Word) (i : ℕ) → length ws ≤ i → None ≡ close_at 0 (drop (i + 1) ws)
group_past ws i h = sym (ap (close_at 0) (drop_past ws (i + 1) (get_past ws (i + 1) (omega arith))))

-- ---- rows that go on

take_both : (ws : List Word) (i k : ℕ) → take i ws ++ take k (drop i ws) ≡ take (i + k) ws
take_both ws zero k = ap (λ n. take n ws) (let z : k ≡ 0 + k = omega arith in z)
take_both [] (suc i) k = take_nil k ∙ sym (take_nil (suc i + k))
take_both (w ∷ ws) (suc i) k = ap (λ xs. w ∷ xs) (take_both ws i k) ∙ ap (λ n. take n (w ∷ ws)) (let z : suc (i + k) ≡ suc i + k = omega arith in z)

pub range_by : (ws : List Word) (from i k : ℕ) → from ≤ i → slice_range ws from i ++ take k (drop i ws) ≡ slice_range ws from (i + k)
range_by ws zero i k h = ap (λ n. take n ws ++ take k (drop i ws)) (let z : i - 0 ≡ i = omega arith in z) ∙ take_both ws i k ∙ ap (λ n. take n ws) (let z : i + k ≡ i + k - 0 = omega arith in z)
range_by ws (suc from) zero k h = absurd (omega arith)
range_by [] (suc from) (suc i) k h = ap (λ xs. xs ++ take k (let ws : List Word = [] in ws)) (take_nil (suc i - suc from)) ∙ take_nil k ∙ sym (take_nil (suc i + k - suc from))
range_by (w ∷ ws) (suc from) (suc i) k h = ap (λ n. take n (drop from ws) ++ take k (drop i ws)) (let z : suc i - suc from ≡ i - from = omega arith in z) ∙ range_by ws from i k (omega arith)
    ∙ ap (λ n. take n (drop from ws)) (let z : i + k - from ≡ suc i + k - suc from = omega arith in z)

pub range_none : (ws : List Word) (i : ℕ) → slice_range ws i i ≡ []
range_none ws i = ap (λ k. take k (drop i ws)) (let z : i - i ≡ 0 = omega arith in z)

-- How bytes are shown, a front at a time.
use Rattle.std.proofs.Common.{◌≡◌, ◌∙◌, ◌<◌, ◌≤◌, ◌+◌, ◌-◌, ◌==◌, ℕ, zero, suc, List, [], ◌∷◌, ◌++◌, length, take, drop, refl, sym, ap, subst, append_assoc, append-nil, arith, Bool, true, false, cond, nat_lt, ◌&&◌}
use Rattle.std.proofs.lemmas.List.{length-drop, length-append, length-take-le, take-append-le, take-append-drop}
use Rattle.std.proofs.Math.Seq.{take-add, take-length}
use Rattle.std.proofs.lemmas.Bool.{ne_eqb}
use Rattle.std.proofs.lemmas.Str.{IsUtf8-nil, IsUtf8-append, IsUtf8-encode, IsUtf8-past_char, IsUtf8-from_is_utf8, is_utf8-from_IsUtf8, chars_past_char, encodes-chars, length-encode}
use Rattle.std.specs.Char.{IsScalar}
use Rattle.std.specs.Str.{IsUtf8, is_utf8, IsValidUpTo, chars}
use Rattle.std.specs.Str.Lossy.{replacement_bytes}
use lib.Utf8.{scalar, scalars, encode, encodes}
use Rattle.cl_lossy.specs.Lossy.{character_length, shown_after, shown}

false_unless : (bs : List ℕ) → ¬ (IsUtf8 bs) → is_utf8 bs ≡ false
false_unless bs h = elim (is_utf8 bs) as (λ b. (b ≡ true → IsUtf8 bs) → b ≡ false) [ true ↦ λ f. absurd (h (f refl)) | false ↦ λ f. refl ] (IsUtf8-from_is_utf8 bs)

-- ---- the length of the first character

pub is_first : (bs : List ℕ) (m : ℕ) → 0 < m → m ≤ 4 → ((k : ℕ) → 0 < k → k < m → is_utf8 (take k bs) ≡ false) → is_utf8 (take m bs) ≡ true → character_length bs ≡ m
unfolding character_length
is_first bs zero p q f t = absurd (omega arith)
is_first bs (suc zero) p q f t = rw t refl
is_first bs (suc (suc zero)) p q f t = rw (f 1 (omega arith) (omega arith), t) refl
is_first bs (suc (suc (suc zero))) p q f t = rw (f 1 (omega arith) (omega arith), f 2 (omega arith) (omega arith), t) refl
is_first bs (suc (suc (suc (suc zero)))) p q f t = rw (f 1 (omega arith) (omega arith), f 2 (omega arith) (omega arith), f 3 (omega arith) (omega arith), t) refl
is_first bs (suc (suc (suc (suc (suc m))))) p q f t = absurd (omega arith)

pub is_none : (bs : List ℕ) → ((k : ℕ) → 0 < k → is_utf8 (take k bs) ≡ false) → character_length bs ≡ 0
unfolding character_length
is_none bs f = rw (f 1 (omega arith), f 2 (omega arith), f 3 (omega arith), f 4 (omega arith)) refl

chars_encode : (c : ℕ) → IsScalar c → chars (encode c) ≡ c ∷ chars []
chars_encode c s = chars_past_char (encode c) [] c (IsUtf8-encode c s) (sym (append-nil (encode c)))

-- a part of a character is no text
cut_short : (c k : ℕ) (t : List ℕ) → IsScalar c → 0 < length t → 0 < k → encode c ≡ t ++ drop k (encode c) → k < length (encode c) → ¬ (IsUtf8 t)
cut_short c k t s p q e l ([], (sc, same)) = let bad : length t ≡ 0 = ap length (sym same) in omega arith
cut_short c k t s p q e l (d ∷ ds, (sc, same)) =
    let rest : List ℕ = encodes ds ++ drop k (encode c) in
    let split : encode c ≡ encode d ++ rest = e ∙ ap (λ (w : List ℕ). w ++ drop k (encode c)) (sym same) ∙ append_assoc (encode d) (encodes ds) (drop k (encode c)) in
    let u : IsUtf8 rest = IsUtf8-past_char (encode c) rest d (IsUtf8-encode c s) split in
    let one : d ∷ chars rest ≡ c ∷ chars [] = sym (chars_past_char (encode c) rest d (IsUtf8-encode c s) split) ∙ chars_encode c s in
    let none : chars rest ≡ chars [] = cc in
    let empty : rest ≡ [] = sym (encodes-chars rest u) ∙ ap encodes none ∙ encodes-chars [] IsUtf8-nil in
    let long : length rest ≡ length (encodes ds) + length (drop k (encode c)) = length-append (encodes ds) (drop k (encode c)) in
    let short : length rest ≡ 0 = ap length empty in
    omega (arith, length-drop k (encode c))

four : (x y z : Bool) → (0 < cond x 1 (cond y 2 (cond z 3 4))) × (cond x 1 (cond y 2 (cond z 3 4)) ≤ 4)
four true y z = (omega arith, omega arith)
four false true z = (omega arith, omega arith)
four false false true = (omega arith, omega arith)
four false false false = (omega arith, omega arith)

encode_bound : (c : ℕ) → (0 < length (encode c)) × (length (encode c) ≤ 4)
encode_bound c = subst (λ (n : ℕ). (0 < n) × (n ≤ 4)) (sym (length-encode c)) (four (nat_lt c 0x80) (nat_lt c 0x800) (nat_lt c 0x1_0000))

character_length_encode : (c : ℕ) (r : List ℕ) → IsScalar c → character_length (encode c ++ r) ≡ length (encode c)
character_length_encode c r s =
    let bound = encode_bound c in
    is_first (encode c ++ r) (length (encode c)) bound.0 bound.1
    (λ k p l.
    let front : take k (encode c ++ r) ≡ take k (encode c) = take-append-le k (encode c) r (omega arith) in
    let long : length (take k (encode c)) ≡ k = length-take-le k (encode c) (omega arith) in
    ap is_utf8 front ∙ false_unless (take k (encode c)) (cut_short c k (take k (encode c)) s (omega arith) p (sym (take-append-drop k (encode c))) l))
    (let front : take (length (encode c)) (encode c ++ r) ≡ encode c = take-append-le (length (encode c)) (encode c) r (omega arith) ∙ take-length (encode c) in
    ap is_utf8 front ∙ is_utf8-from_IsUtf8 (encode c) (IsUtf8-encode c s))

-- ---- a front that is text stands as it is

after_part : (p r : List ℕ) → shown_after (length p) (p ++ r) ≡ p ++ shown r
unfolding shown_after
after_part [] [] = refl
after_part [] (b ∷ r) = refl
after_part (b ∷ p) r = ap (λ (w : List ℕ). b ∷ w) (after_part p r)

after_first : (p r : List ℕ) → 0 < length p → character_length (p ++ r) ≡ length p → shown (p ++ r) ≡ p ++ shown r
unfolding shown_after
after_first [] r h e = absurd (omega arith)
after_first (b ∷ p) r h e =
    let long : character_length (b ∷ (p ++ r)) ≡ suc (length p) = e in
    let some : (character_length (b ∷ (p ++ r)) == 0) ≡ false = ne_eqb _ 0 (λ z. omega arith) in
    let left : character_length (b ∷ (p ++ r)) - 1 ≡ length p = omega arith in
    rw some (ap (λ (w : List ℕ). b ∷ w) (ap (λ n. shown_after n (p ++ r)) left ∙ after_part p r))

both_true : (a b : Bool) → (a && b) ≡ true → (a ≡ true) × (b ≡ true)
both_true true b e = (refl, e)
both_true false b e = (e, cc)

shown_front : (cs r : List ℕ) → scalars cs ≡ true → shown (encodes cs ++ r) ≡ encodes cs ++ shown r
shown_front [] r s = refl
shown_front (c ∷ cs) r s =
    let each = both_true (scalar c) (scalars cs) s in
    ap shown (append_assoc (encode c) (encodes cs) r)
    ∙ after_first (encode c) (encodes cs ++ r) (encode_bound c).0 (character_length_encode c (encodes cs ++ r) each.0)
    ∙ ap (λ (w : List ℕ). encode c ++ w) (shown_front cs r each.1)
    ∙ sym (append_assoc (encode c) (encodes cs) (shown r))

front_shown : (front r : List ℕ) → IsUtf8 front → shown (front ++ r) ≡ front ++ shown r
front_shown front r (cs, (s, e)) = subst (λ (w : List ℕ). shown (w ++ r) ≡ w ++ shown r) e (shown_front cs r s)

shown_nil : shown [] ≡ []
unfolding shown_after
shown_nil = refl

pub shown_valid : (bs : List ℕ) → IsUtf8 bs → shown bs ≡ bs
shown_valid bs u = ap shown (sym (append-nil bs)) ∙ front_shown bs [] u ∙ ap (λ (w : List ℕ). bs ++ w) shown_nil ∙ append-nil bs

-- ---- a byte where no character begins

bad_byte : (bs : List ℕ) → 0 < length bs → character_length bs ≡ 0 → shown bs ≡ replacement_bytes ++ shown (drop 1 bs)
unfolding shown_after
bad_byte [] h e = absurd (omega arith)
bad_byte (b ∷ bs) h e =
    let none : (character_length (b ∷ bs) == 0) ≡ true = ap (λ n. n == 0) e in
    rw none refl

pub shown_step : (bs : List ℕ) (n : ℕ) → IsValidUpTo bs n → shown bs ≡ take n bs ++ (replacement_bytes ++ shown (drop 1 (drop n bs)))
shown_step bs n v =
    let rest : List ℕ = drop n bs in
    let some : 0 < length rest = omega (arith, v.short, length-drop n bs) in
    let none : character_length rest ≡ 0 = is_none rest (λ k p. false_unless (take k rest)
    (λ u. v.longest (n + k) (omega arith) (subst IsUtf8 (sym (take-add n k bs)) (IsUtf8-append (take n bs) (take k rest) v.front u)))) in
    ap shown (sym (take-append-drop n bs)) ∙ front_shown (take n bs) rest v.front ∙ ap (λ (w : List ℕ). take n bs ++ w) (bad_byte rest some none)

-- the last round of the loop, where what is left is text
pub shown_ends : (bytes left text new : List ℕ) → IsUtf8 left → shown bytes ≡ text ++ shown left → new ≡ text ++ left → new ≡ shown bytes
shown_ends bytes left text new u p q = q ∙ ap (λ (w : List ℕ). text ++ w) (sym (shown_valid left u)) ∙ sym p

-- another round
pub shown_goes_on : (bytes left text one two next : List ℕ) (n : ℕ) → IsValidUpTo left n → shown bytes ≡ text ++ shown left
    → one ≡ text ++ take n left → two ≡ one ++ replacement_bytes → next ≡ drop 1 (drop n left) → shown bytes ≡ two ++ shown next
shown_goes_on bytes left text one two next n v p q r e =
    let joined : text ++ (take n left ++ (replacement_bytes ++ shown (drop 1 (drop n left)))) ≡ ((text ++ take n left) ++ replacement_bytes) ++ shown (drop 1 (drop n left))
    = sym (append_assoc (text ++ take n left) replacement_bytes (shown (drop 1 (drop n left))) ∙ append_assoc text (take n left) (replacement_bytes ++ shown (drop 1 (drop n left)))) in
    p ∙ ap (λ (w : List ℕ). text ++ w) (shown_step left n v) ∙ joined
    ∙ ap (λ (w : List ℕ). w ++ shown (drop 1 (drop n left))) (ap (λ (w : List ℕ). w ++ replacement_bytes) (sym q) ∙ sym r)
    ∙ ap (λ (w : List ℕ). two ++ shown w) (sym e)

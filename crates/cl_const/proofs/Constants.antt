-- The integer constants are those of the grammar.
use Rattle.std.proofs.Common.{◌≡◌, ◌≢◌, ℕ, suc, ◌+◌, Bool, true, false, ◌||◌, cond, if◌then◌else◌, List, [], ◌∷◌, ◌++◌, Option, Some, None, inl, inr, refl, sym, ap, ◌∙◌, subst, arith, length, take, drop}
use Rattle.std.specs.Prelude.{nat_eq, ◌==◌, ◌↔◌}
use Rattle.std.specs.List.{list_all, prefix_len}
use Rattle.std.proofs.lemmas.Bool.{false≢true, and_parts}
use Rattle.std.proofs.lemmas.Bool.Decides.{nat_tests}
use Rattle.std.proofs.lemmas.List.{take-append-drop}
use Rattle.std.proofs.Math.Seq.{drop-append_seam, take-append_seam}
use Rattle.cl_const.specs.declared.number.Number.{Number}
use Rattle.cl_const.specs.declared.integers.Base.{Base}
use Rattle.cl_const.specs.declared.integers.Base.TheVariants.{Octal, Decimal, Hexadecimal}
use Rattle.cl_const.specs.Integers.{AreDigits, IsFirst, IsFront, IsInteger, base_of, digits_value, front_len, integer, is_digit, signed_suffixes, suffix_unsigned, typed, typed_by, unsigned_suffixes}

-- ---- a constant that is read has its parts

one_there : (a : ℕ) (b : Bool) → IsFront (if b then Octal else Decimal) (take (front_len (if b then Octal else Decimal)) (a ∷ []))
one_there a true = refl
one_there a false = refl

hex_front : (a b : ℕ) → a ≡ 48 → (x y : Bool) → (b == 120) ≡ x → (b == 88) ≡ y → (text : List ℕ)
    → IsFront (if x || y then Hexadecimal else Octal) (take (front_len (if x || y then Hexadecimal else Octal)) (a ∷ b ∷ text))
hex_front a b e true y f g text = let c : b ≡ 120 = grind (arith, nat_tests) in inl (rw (e, c) refl)
hex_front a b e false true f g text = let c : b ≡ 88 = grind (arith, nat_tests) in inr (rw (e, c) refl)
hex_front a b e false false f g text = refl

two_there : (a b : ℕ) (z : Bool) → (a == 48) ≡ z → (text : List ℕ)
    → IsFront (if z then (if b == 120 || b == 88 then Hexadecimal else Octal) else Decimal) (take (front_len (if z then (if b == 120 || b == 88 then Hexadecimal else Octal) else Decimal)) (a ∷ b ∷ text))
two_there a b true e text = let c : a ≡ 48 = grind (arith, nat_tests) in hex_front a b c (b == 120) (b == 88) refl refl text
two_there a b false e text = refl

front_there : (text : List ℕ) → IsFront (base_of text) (take (front_len (base_of text)) text)
front_there [] = refl
front_there (a ∷ []) = one_there a (a == 48)
front_there (a ∷ b ∷ text) = two_there a b (a == 48) refl text

-- the first digit, where the text is of this base
FirstOf : Base → List ℕ → Type 0
FirstOf base [] = Unit {0}
FirstOf base (d ∷ digits) = IsFirst base d

first_one : (a : ℕ) (z : Bool) → (a == 48) ≡ z → FirstOf (if z then Octal else Decimal) (drop (front_len (if z then Octal else Decimal)) (a ∷ []))
unfolding FirstOf
first_one a true e = grind (arith, nat_tests)
first_one a false e = λ f. let g : (a == 48) ≡ true = grind (arith, nat_tests) in false≢true (sym e ∙ g)

first_hex : (a b : ℕ) (x : Bool) (text : List ℕ) → a ≡ 48 → FirstOf (if x then Hexadecimal else Octal) (drop (front_len (if x then Hexadecimal else Octal)) (a ∷ b ∷ text))
unfolding FirstOf
first_hex a b true [] e = tt
first_hex a b true (d ∷ text) e = tt
first_hex a b false text e = e

first_two : (a b : ℕ) (z : Bool) (text : List ℕ) → (a == 48) ≡ z
    → FirstOf (if z then (if b == 120 || b == 88 then Hexadecimal else Octal) else Decimal) (drop (front_len (if z then (if b == 120 || b == 88 then Hexadecimal else Octal) else Decimal)) (a ∷ b ∷ text))
unfolding FirstOf
first_two a b true text e = let c : a ≡ 48 = grind (arith, nat_tests) in first_hex a b (b == 120 || b == 88) text c
first_two a b false text e = λ f. let g : (a == 48) ≡ true = grind (arith, nat_tests) in false≢true (sym e ∙ g)

first_there : (text : List ℕ) → FirstOf (base_of text) (drop (front_len (base_of text)) text)
unfolding FirstOf
first_there [] = tt
first_there (a ∷ []) = first_one a (a == 48) refl
first_there (a ∷ b ∷ text) = first_two a b (a == 48) text refl

scan : (p : ℕ → Bool) (x : ℕ) (xs : List ℕ) → p x ≡ true → take (prefix_len p (x ∷ xs)) (x ∷ xs) ≡ x ∷ take (prefix_len p xs) xs
scan p x xs e =
    let k : ℕ = prefix_len p xs in
    let f : 1 + k ≡ suc k = omega arith in
    ap (λ (b : Bool). take (cond b (1 + k) 0) (x ∷ xs)) e ∙ ap (λ (n : ℕ). take n (x ∷ xs)) f

scan_none : (p : ℕ → Bool) (x : ℕ) (xs : List ℕ) → p x ≡ false → take (prefix_len p (x ∷ xs)) (x ∷ xs) ≡ []
scan_none p x xs e = ap (λ (b : Bool). take (cond b (1 + prefix_len p xs) 0) (x ∷ xs)) e

both : (p : ℕ → Bool) (x : ℕ) (xs : List ℕ) → p x ≡ true → list_all p xs ≡ true → list_all p (x ∷ xs) ≡ true
both p x xs e f = rw (e, f) refl

all_by : (p : ℕ → Bool) (x : ℕ) (xs : List ℕ) (b : Bool) → p x ≡ b → list_all p (take (prefix_len p xs) xs) ≡ true → list_all p (take (prefix_len p (x ∷ xs)) (x ∷ xs)) ≡ true
all_by p x xs true e f = ap (list_all p) (scan p x xs e) ∙ both p x (take (prefix_len p xs) xs) e f
all_by p x xs false e f = ap (list_all p) (scan_none p x xs e)

all_front : (p : ℕ → Bool) (xs : List ℕ) → list_all p (take (prefix_len p xs) xs) ≡ true
all_front p [] = refl
all_front p (x ∷ xs) = all_by p x xs (p x) refl (all_front p xs)

digits_by : (base : Base) (d : ℕ) (rest : List ℕ) (b : Bool) → is_digit base d ≡ b → IsFirst base d → (prefix_len (is_digit base) (d ∷ rest) == 0) ≡ false → AreDigits base (take (prefix_len (is_digit base) (d ∷ rest)) (d ∷ rest))
digits_by base d rest true e f g =
    let p : ℕ → Bool = is_digit base in
    subst (AreDigits base) (sym (scan (is_digit base) d rest e)) (f, both (is_digit base) d (take (prefix_len (is_digit base) rest) rest) e (all_front (is_digit base) rest))
digits_by base d rest false e f g = absurd (false≢true (sym g ∙ ap (λ (b : Bool). cond b (1 + prefix_len (is_digit base) rest) 0 == 0) e))

digits_there : (base : Base) (rest : List ℕ) → FirstOf base rest → (prefix_len (is_digit base) rest == 0) ≡ false → AreDigits base (take (prefix_len (is_digit base) rest) rest)
unfolding FirstOf
digits_there base [] f e = absurd (false≢true (sym e))
digits_there base (d ∷ rest) f e = digits_by base d rest (is_digit base d) refl f e

record Opened (z : Bool) (base : Base) (o : Option Bool) (v : ℕ) (n : Number) : Type 0 where
  some : z ≡ false
  unsigned : Bool
  suffix : o ≡ Some unsigned
  types : typed base unsigned v ≡ Some n

opened : (z : Bool) (base : Base) (o : Option Bool) (v : ℕ) (n : Number) → (if z then None else typed_by base o v) ≡ Some n → Opened z base o v n
opened true base o v n e = cc
opened false base None v n e = cc
opened false base (Some u) v n e = record { some = refl; unsigned = u; suffix = refl; types = e }

read_parts : (text : List ℕ) (n : Number) → integer text ≡ Some n → IsInteger text n
read_parts text n h =
    let base : Base = base_of text in
    let rest : List ℕ = drop (front_len (base_of text)) text in
    let count : ℕ = prefix_len (is_digit (base_of text)) rest in
    let o = opened (count == 0) base (suffix_unsigned (drop count rest)) (digits_value base (take count rest)) n h in
    record {
      base = base;
      front = take (front_len base) text;
      digits = take count rest;
      suffix = drop count rest;
      unsigned = o.unsigned;
      parts = sym (ap (λ (r : List ℕ). take (front_len base) text ++ r) (take-append-drop count rest) ∙ take-append-drop (front_len base) text);
      begins = front_there text;
      counts = digits_there base rest (first_there text) o.some;
      ends = o.suffix;
      types = o.types;
    }

-- ---- a constant of these parts is read

no_suffix : (d : ℕ) (s : List ℕ) → nat_eq 117 d ≡ false → nat_eq 85 d ≡ false → nat_eq 108 d ≡ false → nat_eq 76 d ≡ false → suffix_unsigned (d ∷ s) ≡ None
unfolding suffix_unsigned signed_suffixes unsigned_suffixes
no_suffix d s e f g h = rw (e, f, g, h) refl

-- what begins a suffix
not_begun : (d : ℕ) (s : List ℕ) (u : Bool) → nat_eq 117 d ≡ false → nat_eq 85 d ≡ false → nat_eq 108 d ≡ false → nat_eq 76 d ≡ false → suffix_unsigned (d ∷ s) ≡ Some u → ⊥
not_begun d s u e f g h k = let none : None ≡ Some u = sym (no_suffix d s e f g h) ∙ k in cc

this_not : (d : ℕ) (s : List ℕ) (u : Bool) (x : ℕ) (b : Bool) → (d == x) ≡ b → nat_eq 117 x ≡ false → nat_eq 85 x ≡ false → nat_eq 108 x ≡ false → nat_eq 76 x ≡ false → suffix_unsigned (d ∷ s) ≡ Some u → b ≡ false
this_not d s u x true i e f g h k = let same : d ≡ x = grind (arith, nat_tests) in absurd (not_begun x s u e f g h (subst (λ (m : ℕ). suffix_unsigned (m ∷ s) ≡ Some u) same k))
this_not d s u x false i e f g h k = refl

not_this : (d : ℕ) (s : List ℕ) (u : Bool) (x : ℕ) → nat_eq 117 x ≡ false → nat_eq 85 x ≡ false → nat_eq 108 x ≡ false → nat_eq 76 x ≡ false → suffix_unsigned (d ∷ s) ≡ Some u → (d == x) ≡ false
not_this d s u x e f g h k = this_not d s u x (d == x) refl e f g h k

digit_ends : (base : Base) (d : ℕ) (s : List ℕ) (u : Bool) → is_digit base d ≡ true → suffix_unsigned (d ∷ s) ≡ Some u → ⊥
digit_ends Octal d s u e k = not_begun d s u (grind (arith, nat_tests)) (grind (arith, nat_tests)) (grind (arith, nat_tests)) (grind (arith, nat_tests)) k
digit_ends Decimal d s u e k = not_begun d s u (grind (arith, nat_tests)) (grind (arith, nat_tests)) (grind (arith, nat_tests)) (grind (arith, nat_tests)) k
digit_ends Hexadecimal d s u e k = not_begun d s u (grind (arith, nat_tests)) (grind (arith, nat_tests)) (grind (arith, nat_tests)) (grind (arith, nat_tests)) k

none_counted : (base : Base) (d : ℕ) (s : List ℕ) (u : Bool) (b : Bool) → is_digit base d ≡ b → suffix_unsigned (d ∷ s) ≡ Some u → prefix_len (is_digit base) (d ∷ s) ≡ 0
none_counted base d s u true e k = absurd (digit_ends base d s u e k)
none_counted base d s u false e k = ap (λ (b : Bool). cond b (1 + prefix_len (is_digit base) s) 0) e

suffix_counted : (base : Base) (s : List ℕ) (u : Bool) → suffix_unsigned s ≡ Some u → prefix_len (is_digit base) s ≡ 0
suffix_counted base [] u k = refl
suffix_counted base (d ∷ s) u k = none_counted base d s u (is_digit base d) refl k

counted : (base : Base) (digits suffix : List ℕ) (u : Bool) → list_all (is_digit base) digits ≡ true → suffix_unsigned suffix ≡ Some u → prefix_len (is_digit base) (digits ++ suffix) ≡ length digits
counted base [] suffix u e k = suffix_counted base suffix u k
counted base (d ∷ digits) suffix u e k =
    let two = and_parts (is_digit base d) (list_all (is_digit base) digits) e in
    let more : prefix_len (is_digit base) (digits ++ suffix) ≡ length digits = counted base digits suffix u two.1 k in
    ap (λ (b : Bool). cond b (1 + prefix_len (is_digit base) (digits ++ suffix)) 0) two.0 ∙ omega arith

decimal_base : (d : ℕ) (xs : List ℕ) → d ≢ 48 → base_of (d ∷ xs) ≡ Decimal
decimal_base d [] h = let e : (d == 48) ≡ false = grind (arith, nat_tests) in rw e refl
decimal_base d (x ∷ xs) h = let e : (d == 48) ≡ false = grind (arith, nat_tests) in rw e refl

octal_base : (d : ℕ) (x : ℕ) (xs : List ℕ) → d ≡ 48 → (x == 120) ≡ false → (x == 88) ≡ false → base_of (d ∷ x ∷ xs) ≡ Octal
octal_base d x xs h e f = let g : (d == 48) ≡ true = grind (arith, nat_tests) in rw (g, e, f) refl

octal_alone : (d : ℕ) → d ≡ 48 → base_of (d ∷ []) ≡ Octal
octal_alone d h = let g : (d == 48) ≡ true = grind (arith, nat_tests) in rw g refl

octal_suffix : (d : ℕ) (suffix : List ℕ) (u : Bool) → d ≡ 48 → suffix_unsigned suffix ≡ Some u → base_of (d ∷ suffix) ≡ Octal
octal_suffix d [] u h k = octal_alone d h
octal_suffix d (x ∷ s) u h k =
    let no_x : (x == 120) ≡ false = not_this x s u 120 (grind (arith, nat_tests)) (grind (arith, nat_tests)) (grind (arith, nat_tests)) (grind (arith, nat_tests)) k in
    let no_upper : (x == 88) ≡ false = not_this x s u 88 (grind (arith, nat_tests)) (grind (arith, nat_tests)) (grind (arith, nat_tests)) (grind (arith, nat_tests)) k in
    octal_base d x s h no_x no_upper

octal_there : (d : ℕ) (digits suffix : List ℕ) (u : Bool) → d ≡ 48 → list_all (is_digit Octal) digits ≡ true → suffix_unsigned suffix ≡ Some u → base_of (d ∷ (digits ++ suffix)) ≡ Octal
octal_there d [] suffix u h e k = octal_suffix d suffix u h k
octal_there d (x ∷ digits) suffix u h e k =
    let two = and_parts (is_digit Octal x) (list_all (is_digit Octal) digits) e in
    let digit : is_digit Octal x ≡ true = two.0 in
    octal_base d x (digits ++ suffix) h (grind (arith, nat_tests)) (grind (arith, nat_tests))

record Cut (base : Base) (front rest : List ℕ) : Type 0 where
  base_is : base_of (front ++ rest) ≡ base
  rest_is : drop (front_len base) (front ++ rest) ≡ rest

cut : (base : Base) (front digits suffix : List ℕ) (u : Bool) → IsFront base front → AreDigits base digits → suffix_unsigned suffix ≡ Some u → Cut base front (digits ++ suffix)
cut base front [] suffix u f h k = absurd h
cut Octal front (d ∷ digits) suffix u f h k =
    let two = and_parts (is_digit Octal d) (list_all (is_digit Octal) digits) h.1 in
    subst (λ (s : List ℕ). Cut Octal s (d ∷ (digits ++ suffix))) (sym f) (record { base_is = octal_there d digits suffix u h.0 two.1 k; rest_is = refl })
cut Decimal front (d ∷ digits) suffix u f h k =
    subst (λ (s : List ℕ). Cut Decimal s (d ∷ (digits ++ suffix))) (sym f) (record { base_is = decimal_base d (digits ++ suffix) h.0; rest_is = refl })
cut Hexadecimal front (d ∷ digits) suffix u (inl f) h k = subst (λ (s : List ℕ). Cut Hexadecimal s (d ∷ (digits ++ suffix))) (sym f) (record { base_is = refl; rest_is = refl })
cut Hexadecimal front (d ∷ digits) suffix u (inr f) h k = subst (λ (s : List ℕ). Cut Hexadecimal s (d ∷ (digits ++ suffix))) (sym f) (record { base_is = refl; rest_is = refl })

some_digit : (base : Base) (digits : List ℕ) → AreDigits base digits → (length digits == 0) ≡ false
some_digit base [] h = absurd h
some_digit base (d ∷ digits) h = grind (arith, nat_tests)

all_digits : (base : Base) (digits : List ℕ) → AreDigits base digits → list_all (is_digit base) digits ≡ true
all_digits base [] h = refl
all_digits base (d ∷ digits) h = h.1

abbrev at_count : Base → List ℕ → ℕ → Option Number
at_count base rest count = if count == 0 then None else typed_by base (suffix_unsigned (drop count rest)) (digits_value base (take count rest))

abbrev at_base : List ℕ → Base → Option Number
at_base text base = at_count base (drop (front_len base) text) (prefix_len (is_digit base) (drop (front_len base) text))

parts_read : (text : List ℕ) (n : Number) → IsInteger text n → integer text ≡ Some n
parts_read text n h =
    let rest : List ℕ = h.digits ++ h.suffix in
    let c = cut h.base h.front h.digits h.suffix h.unsigned h.begins h.counts h.ends in
    let count : prefix_len (is_digit h.base) rest ≡ length h.digits = counted h.base h.digits h.suffix h.unsigned (all_digits h.base h.digits h.counts) h.ends in
    let one : integer (h.front ++ rest) ≡ at_base (h.front ++ rest) h.base = ap (at_base (h.front ++ rest)) c.base_is in
    let two : at_base (h.front ++ rest) h.base ≡ at_count h.base rest (prefix_len (is_digit h.base) rest) = ap (λ (r : List ℕ). at_count h.base r (prefix_len (is_digit h.base) r)) c.rest_is in
    let three : at_count h.base rest (prefix_len (is_digit h.base) rest) ≡ at_count h.base rest (length h.digits) = ap (at_count h.base rest) count in
    let four : at_count h.base rest (length h.digits) ≡ typed_by h.base (suffix_unsigned (drop (length h.digits) rest)) (digits_value h.base (take (length h.digits) rest)) =
    ap (λ (z : Bool). if z then None else typed_by h.base (suffix_unsigned (drop (length h.digits) rest)) (digits_value h.base (take (length h.digits) rest))) (some_digit h.base h.digits h.counts) in
    let five : typed_by h.base (suffix_unsigned (drop (length h.digits) rest)) (digits_value h.base (take (length h.digits) rest)) ≡ typed_by h.base (suffix_unsigned h.suffix) (digits_value h.base h.digits) =
    ap (λ (s : List ℕ). typed_by h.base (suffix_unsigned s) (digits_value h.base (take (length h.digits) rest))) (drop-append_seam h.digits h.suffix)
    ∙ ap (λ (s : List ℕ). typed_by h.base (suffix_unsigned h.suffix) (digits_value h.base s)) (take-append_seam h.digits h.suffix) in
    ap integer h.parts ∙ one ∙ two ∙ three ∙ four ∙ five ∙ ap (λ (o : Option Bool). typed_by h.base o (digits_value h.base h.digits)) h.ends ∙ h.types

pub by_grammar : (text : List ℕ) (n : Number) → (integer text ≡ Some n) ↔ IsInteger text n
by_grammar text n = (read_parts text n, parts_read text n)

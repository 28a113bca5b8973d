-- The characters outside ASCII are those that UTF-8 writes so.
use Rattle.std.proofs.Common.{◌≡◌, ℕ, ◌+◌, ◌*◌, ◌/◌, ◌%◌, ◌<◌, ◌≤◌, ◌==◌, Bool, true, false, ◌&&◌, if◌then◌else◌, List, [], ◌∷◌, length, Option, Some, None, inl, inr, refl, sym, ap, ◌∙◌, arith, ⊎_elim}
use Rattle.std.specs.Prelude.{nat_le, nat_lt, ◌↔◌, ◌⊎◌}
use Rattle.std.specs.Char.{IsScalar, encode_utf8}
use lib.Utf8.{scalar_cases}
use Rattle.std.proofs.lemmas.Bool.{and_parts, cases_lt, cases_eq}
use Rattle.std.proofs.lemmas.Bool.Decides.{nat_tests}
use Rattle.cl_base.specs.Characters.{begins_four, begins_three, char_len, is_between, is_tail, sequence_len}
use Rattle.cl_const.specs.Utf8.{IsCharacter, code_point, tail}

-- ---- the form of the bytes

-- a byte after the first
record IsTail (b : ℕ) : Type 0 where
  low : 128 ≤ b
  high : b ≤ 191

record IsTwo (a b : ℕ) : Type 0 where
  low : 194 ≤ a
  high : a ≤ 223
  second : IsTail b

record IsThree (a b c : ℕ) : Type 0 where
  low : 224 ≤ a
  high : a ≤ 239
  second : IsTail b
  third : IsTail c
  shortest : a ≡ 224 → 160 ≤ b
  no_surrogate : a ≡ 237 → b ≤ 159

record IsFour (a b c d : ℕ) : Type 0 where
  low : 240 ≤ a
  high : a ≤ 244
  second : IsTail b
  third : IsTail c
  fourth : IsTail d
  shortest : a ≡ 240 → 144 ≤ b
  most : a ≡ 244 → b ≤ 143

abbrev choice : Bool → Bool → Bool → Bool → ℕ
choice p q r s = if p then 1 else if q then 2 else if r then 3 else if s then 4 else 0

choice_two : (p q r s : Bool) → choice p q r s ≡ 2 → q ≡ true
choice_two true q r s e = absurd (omega arith)
choice_two false true r s e = refl
choice_two false false true s e = absurd (omega arith)
choice_two false false false true e = absurd (omega arith)
choice_two false false false false e = absurd (omega arith)

choice_three : (p q r s : Bool) → choice p q r s ≡ 3 → r ≡ true
choice_three true q r s e = absurd (omega arith)
choice_three false true r s e = absurd (omega arith)
choice_three false false true s e = refl
choice_three false false false true e = absurd (omega arith)
choice_three false false false false e = absurd (omega arith)

choice_four : (p q r s : Bool) → choice p q r s ≡ 4 → s ≡ true
choice_four true q r s e = absurd (omega arith)
choice_four false true r s e = absurd (omega arith)
choice_four false false true s e = absurd (omega arith)
choice_four false false false true e = refl
choice_four false false false false e = absurd (omega arith)

tail_form : (b : ℕ) → is_tail b ≡ true → IsTail b
tail_form b e = record { low = grind (arith, nat_tests); high = grind (arith, nat_tests) }

two_form : (a b : ℕ) → is_between 194 223 a ≡ true → IsTail b → IsTwo a b
two_form a b e t = record { low = grind (arith, nat_tests); high = grind (arith, nat_tests); second = t }

three_form : (a b c : ℕ) → begins_three a b ≡ true → IsTail c → IsThree a b c
three_form a b c e t = record {
  low = grind (arith, nat_tests);
  high = grind (arith, nat_tests);
  second = record { low = grind (arith, nat_tests); high = grind (arith, nat_tests) };
  third = t;
  shortest = λ f. grind (arith, nat_tests);
  no_surrogate = λ f. grind (arith, nat_tests);
}

four_form : (a b c d : ℕ) → begins_four a b ≡ true → IsTail c → IsTail d → IsFour a b c d
four_form a b c d e t u = record {
  low = grind (arith, nat_tests);
  high = grind (arith, nat_tests);
  second = record { low = grind (arith, nat_tests); high = grind (arith, nat_tests) };
  third = t;
  fourth = u;
  shortest = λ f. grind (arith, nat_tests);
  most = λ f. grind (arith, nat_tests);
}

abbrev second_of : ℕ → ℕ → Bool
second_of a b = is_between 194 223 a && is_tail b

of_two : (a b c d : ℕ) → sequence_len a b c d ≡ 2 → IsTwo a b
of_two a b c d e =
    let t = and_parts (is_between 194 223 a) (is_tail b) (choice_two (nat_le a 127) (second_of a b) (begins_three a b && is_tail c) (begins_four a b && is_tail c && is_tail d) e) in
    two_form a b t.0 (tail_form b t.1)

of_three : (a b c d : ℕ) → sequence_len a b c d ≡ 3 → IsThree a b c
of_three a b c d e =
    let t = and_parts (begins_three a b) (is_tail c) (choice_three (nat_le a 127) (second_of a b) (begins_three a b && is_tail c) (begins_four a b && is_tail c && is_tail d) e) in
    three_form a b c t.0 (tail_form c t.1)

of_four : (a b c d : ℕ) → sequence_len a b c d ≡ 4 → IsFour a b c d
of_four a b c d e =
    let t = and_parts (begins_four a b && is_tail c) (is_tail d) (choice_four (nat_le a 127) (second_of a b) (begins_three a b && is_tail c) (begins_four a b && is_tail c && is_tail d) e) in
    let u = and_parts (begins_four a b) (is_tail c) t.0 in
    four_form a b c d u.0 (tail_form c u.1) (tail_form d t.1)

two_len : (a b c d : ℕ) → IsTwo a b → sequence_len a b c d ≡ 2
two_len a b c d h =
    let l : 194 ≤ a = h.low in
    let m : a ≤ 223 = h.high in
    let n : 128 ≤ b = h.second.low in
    let o : b ≤ 191 = h.second.high in
    grind (arith, nat_tests)

three_len : (a b c d : ℕ) → IsThree a b c → sequence_len a b c d ≡ 3
three_len a b c d h =
    let l : 224 ≤ a = h.low in
    let m : a ≤ 239 = h.high in
    let n : 128 ≤ b = h.second.low in
    let o : b ≤ 191 = h.second.high in
    let p : 128 ≤ c = h.third.low in
    let q : c ≤ 191 = h.third.high in
    ⊎_elim
    (λ (e : a ≡ 224). let r : 160 ≤ b = h.shortest e in grind (arith, nat_tests))
    (λ ne. ⊎_elim
    (λ (f : a ≡ 237). let t : b ≤ 159 = h.no_surrogate f in grind (arith, nat_tests))
    (λ nf. grind (arith, nat_tests))
    (cases_eq a 237))
    (cases_eq a 224)

four_len : (a b c d : ℕ) → IsFour a b c d → sequence_len a b c d ≡ 4
four_len a b c d h =
    let l : 240 ≤ a = h.low in
    let m : a ≤ 244 = h.high in
    let n : 128 ≤ b = h.second.low in
    let o : b ≤ 191 = h.second.high in
    let p : 128 ≤ c = h.third.low in
    let q : c ≤ 191 = h.third.high in
    let r : 128 ≤ d = h.fourth.low in
    let s : d ≤ 191 = h.fourth.high in
    ⊎_elim
    (λ (e : a ≡ 240). let t : 144 ≤ b = h.shortest e in grind (arith, nat_tests))
    (λ ne. ⊎_elim
    (λ (f : a ≡ 244). let u : b ≤ 143 = h.most f in grind (arith, nat_tests))
    (λ nf. grind (arith, nat_tests))
    (cases_eq a 244))
    (cases_eq a 240)

-- what begins a text of so many bytes
at_two : (a b : ℕ) → char_len (a ∷ b ∷ []) 0 ≡ sequence_len a b 0 0
unfolding char_len
at_two a b = refl

at_three : (a b c : ℕ) → char_len (a ∷ b ∷ c ∷ []) 0 ≡ sequence_len a b c 0
unfolding char_len
at_three a b c = refl

at_four : (a b c d : ℕ) → char_len (a ∷ b ∷ c ∷ d ∷ []) 0 ≡ sequence_len a b c d
unfolding char_len
at_four a b c d = refl

-- ---- how a code is written

encode_two : (c : ℕ) → 128 ≤ c → c < 2048 → encode_utf8 c ≡ (192 + c / 64) ∷ (128 + c % 64) ∷ []
unfolding encode_utf8
encode_two c l m = let e : nat_lt c 128 ≡ false = grind (arith, nat_tests) in let f : nat_lt c 2048 ≡ true = grind (arith, nat_tests) in rw (e, f) refl

encode_three : (c : ℕ) → 2048 ≤ c → c < 65536 → encode_utf8 c ≡ (224 + c / 4096) ∷ (128 + (c / 64) % 64) ∷ (128 + c % 64) ∷ []
unfolding encode_utf8
encode_three c l m =
    let e : nat_lt c 128 ≡ false = grind (arith, nat_tests) in
    let f : nat_lt c 2048 ≡ false = grind (arith, nat_tests) in
    let g : nat_lt c 65536 ≡ true = grind (arith, nat_tests) in
    rw (e, f, g) refl

encode_four : (c : ℕ) → 65536 ≤ c → encode_utf8 c ≡ (240 + c / 262144) ∷ (128 + (c / 4096) % 64) ∷ (128 + (c / 64) % 64) ∷ (128 + c % 64) ∷ []
unfolding encode_utf8
encode_four c l =
    let e : nat_lt c 128 ≡ false = grind (arith, nat_tests) in
    let f : nat_lt c 2048 ≡ false = grind (arith, nat_tests) in
    let g : nat_lt c 65536 ≡ false = grind (arith, nat_tests) in
    rw (e, f, g) refl

scalar_low : (c : ℕ) → c < 55296 → IsScalar c
scalar_low c l = let e : nat_lt c 55296 ≡ true = grind (arith, nat_tests) in rw e refl

scalar_high : (c : ℕ) → 57344 ≤ c → c < 1114112 → IsScalar c
scalar_high c l m =
    let e : nat_lt c 55296 ≡ false = grind (arith, nat_tests) in
    let f : nat_le 57344 c ≡ true = grind (arith, nat_tests) in
    let g : nat_lt c 1114112 ≡ true = grind (arith, nat_tests) in
    rw (e, f, g) refl

-- ---- what is read was written so

record Passed (n m : ℕ) (x : Option ℕ) (c : ℕ) : Type 0 where
  len : n ≡ m
  is : x ≡ Some c

passed_by : (b : Bool) (n m : ℕ) (x : Option ℕ) (c : ℕ) → (n == m) ≡ b → (if b then x else None) ≡ Some c → Passed n m x c
passed_by true n m x c t e = record { len = grind (arith, nat_tests, t); is = e }
passed_by false n m x c t e = cc

passed : (n m : ℕ) (x : Option ℕ) (c : ℕ) → (if n == m then x else None) ≡ Some c → Passed n m x c
passed n m x c e = passed_by (n == m) n m x c refl e

some_is : (x c : ℕ) → Some x ≡ Some c → x ≡ c
some_is x c e = cc

two_read : (a b c : ℕ) → IsTwo a b → (a % 32) * 64 + b % 64 ≡ c → IsCharacter (a ∷ b ∷ []) c
two_read a b c t code =
    let l : 194 ≤ a = t.low in
    let m : a ≤ 223 = t.high in
    let n : 128 ≤ b = t.second.low in
    let o : b ≤ 191 = t.second.high in
    let h : 192 + c / 64 ≡ a = omega arith in
    let k : 128 + c % 64 ≡ b = omega arith in
    record { beyond = omega arith; is_scalar = scalar_low c (omega arith); written = encode_two c (omega arith) (omega arith) ∙ rw (h, k) refl }

three_out : (a b d c : ℕ) → IsThree a b d → ((a % 16) * 64 + b % 64) * 64 + d % 64 ≡ c → (c < 55296) ⊎ (57343 < c)
three_out a b d c t code =
    let l : 224 ≤ a = t.low in
    let m : a ≤ 239 = t.high in
    let n : 128 ≤ b = t.second.low in
    let o : b ≤ 191 = t.second.high in
    ⊎_elim
    (λ (f : a ≡ 237). let u : b ≤ 159 = t.no_surrogate f in inl (omega arith))
    (λ nf. ⊎_elim (λ (f : a < 237). inl (omega arith)) (λ (f : 237 ≤ a). inr (omega arith)) (cases_lt a 237))
    (cases_eq a 237)

three_low : (a b d c : ℕ) → IsThree a b d → ((a % 16) * 64 + b % 64) * 64 + d % 64 ≡ c → 2048 ≤ c
three_low a b d c t code =
    let l : 224 ≤ a = t.low in
    let m : a ≤ 239 = t.high in
    let n : 128 ≤ b = t.second.low in
    let o : b ≤ 191 = t.second.high in
    ⊎_elim (λ (f : a ≡ 224). let u : 160 ≤ b = t.shortest f in omega arith) (λ nf. omega arith) (cases_eq a 224)

three_read : (a b d c : ℕ) → IsThree a b d → ((a % 16) * 64 + b % 64) * 64 + d % 64 ≡ c → IsCharacter (a ∷ b ∷ d ∷ []) c
three_read a b d c t code =
    let l : 224 ≤ a = t.low in
    let m : a ≤ 239 = t.high in
    let n : 128 ≤ b = t.second.low in
    let o : b ≤ 191 = t.second.high in
    let p : 128 ≤ d = t.third.low in
    let q : d ≤ 191 = t.third.high in
    let low : 2048 ≤ c = three_low a b d c t code in
    let h : 224 + c / 4096 ≡ a = omega arith in
    let k : 128 + (c / 64) % 64 ≡ b = omega arith in
    let j : 128 + c % 64 ≡ d = omega arith in
    record {
      beyond = omega arith;
      is_scalar = ⊎_elim (λ (x : c < 55296). scalar_low c x) (λ (x : 57343 < c). scalar_high c (omega arith) (omega arith)) (three_out a b d c t code);
      written = encode_three c low (omega arith) ∙ rw (h, k, j) refl;
    }

four_range : (a b d f c : ℕ) → IsFour a b d f → (((a % 8) * 64 + b % 64) * 64 + d % 64) * 64 + f % 64 ≡ c → (65536 ≤ c) × (c < 1114112)
four_range a b d f c t code =
    let l : 240 ≤ a = t.low in
    let m : a ≤ 244 = t.high in
    let n : 128 ≤ b = t.second.low in
    let o : b ≤ 191 = t.second.high in (
      ⊎_elim (λ (x : a ≡ 240). let u : 144 ≤ b = t.shortest x in omega arith) (λ nx. omega arith) (cases_eq a 240),
      ⊎_elim (λ (x : a ≡ 244). let u : b ≤ 143 = t.most x in omega arith) (λ nx. omega arith) (cases_eq a 244),
    )

four_read : (a b d f c : ℕ) → IsFour a b d f → (((a % 8) * 64 + b % 64) * 64 + d % 64) * 64 + f % 64 ≡ c → IsCharacter (a ∷ b ∷ d ∷ f ∷ []) c
four_read a b d f c t code =
    let l : 240 ≤ a = t.low in
    let m : a ≤ 244 = t.high in
    let n : 128 ≤ b = t.second.low in
    let o : b ≤ 191 = t.second.high in
    let p : 128 ≤ d = t.third.low in
    let q : d ≤ 191 = t.third.high in
    let r : 128 ≤ f = t.fourth.low in
    let s : f ≤ 191 = t.fourth.high in
    let w = four_range a b d f c t code in
    let low : 65536 ≤ c = w.0 in
    let most : c < 1114112 = w.1 in
    let h : 240 + c / 262144 ≡ a = omega arith in
    let k : 128 + (c / 4096) % 64 ≡ b = omega arith in
    let j : 128 + (c / 64) % 64 ≡ d = omega arith in
    let i : 128 + c % 64 ≡ f = omega arith in
    record { beyond = omega arith; is_scalar = scalar_high c (omega arith) most; written = encode_four c low ∙ rw (h, k, j, i) refl }

read_written : (bytes : List ℕ) (c : ℕ) → code_point bytes ≡ Some c → IsCharacter bytes c
read_written [] c e = let p = passed (char_len [] 0) 0 None c e in let n : None ≡ Some c = p.is in cc
read_written (a ∷ []) c e = let p = passed (char_len (a ∷ []) 0) 1 None c e in let n : None ≡ Some c = p.is in cc
read_written (a ∷ b ∷ []) c e =
    let p = passed (char_len (a ∷ b ∷ []) 0) 2 (Some (tail (a % 32) b)) c e in
    two_read a b c (of_two a b 0 0 (sym (at_two a b) ∙ p.len)) (some_is (tail (a % 32) b) c p.is)
read_written (a ∷ b ∷ d ∷ []) c e =
    let p = passed (char_len (a ∷ b ∷ d ∷ []) 0) 3 (Some (tail (tail (a % 16) b) d)) c e in
    three_read a b d c (of_three a b d 0 (sym (at_three a b d) ∙ p.len)) (some_is (tail (tail (a % 16) b) d) c p.is)
read_written (a ∷ b ∷ d ∷ f ∷ []) c e =
    let p = passed (char_len (a ∷ b ∷ d ∷ f ∷ []) 0) 4 (Some (tail (tail (tail (a % 8) b) d) f)) c e in
    four_read a b d f c (of_four a b d f (sym (at_four a b d f) ∙ p.len)) (some_is (tail (tail (tail (a % 8) b) d) f) c p.is)
read_written (a ∷ b ∷ d ∷ f ∷ x ∷ xs) c e =
    let p = passed (char_len (a ∷ b ∷ d ∷ f ∷ x ∷ xs) 0) (length (a ∷ b ∷ d ∷ f ∷ x ∷ xs)) None c e in let n : None ≡ Some c = p.is in cc

-- ---- what is written so is read

give : (n m : ℕ) (x : Option ℕ) (y : Option ℕ) → n ≡ m → x ≡ y → (if n == m then x else None) ≡ y
give n m x y e f = let t : (n == m) ≡ true = grind (arith, nat_tests) in rw (t, f) refl

two_written : (c : ℕ) → 128 ≤ c → c < 2048 → code_point ((192 + c / 64) ∷ (128 + c % 64) ∷ []) ≡ Some c
two_written c l m =
    let a : ℕ = 192 + c / 64 in
    let b : ℕ = 128 + c % 64 in
    let t : IsTwo a b = record { low = omega arith; high = omega arith; second = record { low = omega arith; high = omega arith } } in
    let value : tail (a % 32) b ≡ c = omega arith in
    give (char_len (a ∷ b ∷ []) 0) 2 (Some (tail (a % 32) b)) (Some c) (at_two a b ∙ two_len a b 0 0 t) (ap Some value)

three_written : (c : ℕ) → 2048 ≤ c → c < 65536 → (c < 55296) ⊎ (57344 ≤ c) → code_point ((224 + c / 4096) ∷ (128 + (c / 64) % 64) ∷ (128 + c % 64) ∷ []) ≡ Some c
three_written c l m out =
    let a : ℕ = 224 + c / 4096 in
    let b : ℕ = 128 + (c / 64) % 64 in
    let d : ℕ = 128 + c % 64 in
    let apart : a ≡ 237 → b ≤ 159 = λ e. ⊎_elim (λ (x : c < 55296). omega arith) (λ (x : 57344 ≤ c). absurd (omega arith)) out in
    let t : IsThree a b d = record {
      low = omega arith;
      high = omega arith;
      second = record { low = omega arith; high = omega arith };
      third = record { low = omega arith; high = omega arith };
      shortest = λ e. omega arith;
      no_surrogate = apart;
    } in
    let value : tail (tail (a % 16) b) d ≡ c = omega arith in
    give (char_len (a ∷ b ∷ d ∷ []) 0) 3 (Some (tail (tail (a % 16) b) d)) (Some c) (at_three a b d ∙ three_len a b d 0 t) (ap Some value)

four_written : (c : ℕ) → 65536 ≤ c → c < 1114112 → code_point ((240 + c / 262144) ∷ (128 + (c / 4096) % 64) ∷ (128 + (c / 64) % 64) ∷ (128 + c % 64) ∷ []) ≡ Some c
four_written c l m =
    let a : ℕ = 240 + c / 262144 in
    let b : ℕ = 128 + (c / 4096) % 64 in
    let d : ℕ = 128 + (c / 64) % 64 in
    let f : ℕ = 128 + c % 64 in
    let t : IsFour a b d f = record {
      low = omega arith;
      high = omega arith;
      second = record { low = omega arith; high = omega arith };
      third = record { low = omega arith; high = omega arith };
      fourth = record { low = omega arith; high = omega arith };
      shortest = λ e. omega arith;
      most = λ e. omega arith;
    } in
    let value : tail (tail (tail (a % 8) b) d) f ≡ c = omega arith in
    give (char_len (a ∷ b ∷ d ∷ f ∷ []) 0) 4 (Some (tail (tail (tail (a % 8) b) d) f)) (Some c) (at_four a b d f ∙ four_len a b d f t) (ap Some value)

written_read : (bytes : List ℕ) (c : ℕ) → IsCharacter bytes c → code_point bytes ≡ Some c
written_read bytes c h =
    let l : 128 ≤ c = h.beyond in
    let s : (c < 55296) ⊎ ((57344 ≤ c) × (c < 1114112)) = scalar_cases c h.is_scalar in
    let out : (c < 55296) ⊎ (57344 ≤ c) = ⊎_elim (λ x. inl x) (λ (x : (57344 ≤ c) × (c < 1114112)). inr x.0) s in
    let most : c < 1114112 = ⊎_elim (λ (x : c < 55296). omega arith) (λ (x : (57344 ≤ c) × (c < 1114112)). x.1) s in
    ⊎_elim
    (λ (x : c < 2048). ap code_point (sym h.written ∙ encode_two c l x) ∙ two_written c l x)
    (λ (x : 2048 ≤ c). ⊎_elim
    (λ (y : c < 65536). ap code_point (sym h.written ∙ encode_three c x y) ∙ three_written c x y out)
    (λ (y : 65536 ≤ c). ap code_point (sym h.written ∙ encode_four c y) ∙ four_written c y most)
    (cases_lt c 65536))
    (cases_lt c 2048)

pub by_utf8 : (bytes : List ℕ) (c : ℕ) → (code_point bytes ≡ Some c) ↔ IsCharacter bytes c
by_utf8 bytes c = (read_written bytes c, written_read bytes c)

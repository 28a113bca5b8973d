-- The characters of a text whose bytes are its characters.
use Rattle.std.proofs.Common.{below_more, ◌≡◌, ◌∙◌, ℕ, zero, suc, ◌<◌, ◌≤◌, ◌+◌, ◌^◌, ◌==◌, List, ◌∷◌, length, get_or, drop, refl, sym, ap, arith, add-one, Bool, true, false, cond, nat_lt, ◌&&◌, ◌||◌}
use Rattle.std.specs.Prelude.{not, None}
use Rattle.std.specs.List.{range_with_len}
use Rattle.std.proofs.Math.Seq.{drop-cons}
use Rattle.std.proofs.Math.ListN.{drop_of_length-le}
use Rattle.std.proofs.lemmas.Bool.{eqb-true, eq-eqb, ne_eqb, not-true, not_from_false}
use Rattle.std.proofs.lemmas.Bool.Decides.{nat_tests}
use Rattle.cl_lex.specs.Source.{stands, trigraph, is_trigraph, is_byte_order_mark, value_at, width_at, is_splice, characters_in, characters, values}
use Rattle.cl_lex.specs.Plain.{IsPlain, is_plain_at, is_special}
use Rattle.cl_lex.specs.Held.{IsHeld, starts}
use Rattle.cl_lex.proofs.Characters.{both_true, kept_piece}

both_false : (a b : Bool) → (a || b) ≡ false → (a ≡ false) × (b ≡ false)
both_false true b e = (e, cc)
both_false false b e = (refl, e)

and_false : (a b : Bool) → b ≡ false → (a && b) ≡ false
and_false true b e = e
and_false false b e = refl

false_and : (a b : Bool) → a ≡ false → (a && b) ≡ false
false_and true b e = cc
false_and false b e = refl

and_true : (a b : Bool) → a ≡ true → b ≡ true → (a && b) ≡ true
and_true true b e f = f
and_true false b e f = e

-- ---- a byte that is not special

ordinary_value : (n r f t m : Bool) (c x : ℕ) → r ≡ false → t ≡ false → m ≡ false → (n ≡ true → c ≡ 10)
    → cond (not (cond n 1 (cond r (cond f 2 1) 0) == 0)) 10 (cond t x (cond m 32 c)) ≡ c
ordinary_value true r f t m c x a b e h = sym (h refl)
ordinary_value false false f false false c x a b e h = refl
ordinary_value false true f t m c x a b e h = absurd (let k : true ≡ false = a in cc)
ordinary_value false false f true m c x a b e h = absurd (let k : true ≡ false = b in cc)
ordinary_value false false f false true c x a b e h = absurd (let k : true ≡ false = e in cc)

ordinary_width : (n r f t m : Bool) → r ≡ false → t ≡ false → m ≡ false
    → ◌≡◌ {A = ℕ} (cond (not (cond n 1 (cond r (cond f 2 1) 0) == 0)) (cond n 1 (cond r (cond f 2 1) 0)) (cond t 3 (cond m 3 1))) 1
ordinary_width true r f t m a b e = refl
ordinary_width false false f false false a b e = refl
ordinary_width false true f t m a b e = absurd (let k : true ≡ false = a in cc)
ordinary_width false false f true m a b e = absurd (let k : true ≡ false = b in cc)
ordinary_width false false f false true a b e = absurd (let k : true ≡ false = e in cc)

pub ordinary : (text : List ℕ) (at : ℕ) → 0 < at → is_special (get_or text at 0) ≡ false → is_plain_at text at ≡ true
ordinary text at some h =
    let c : ℕ = get_or text at 0 in
    let two = both_false (c == 13 || c == 63) (c == 92) h in
    let one = both_false (c == 13) (c == 63) two.0 in
    let r : stands text at 13 ≡ false = and_false (nat_lt at (length text)) (c == 13) one.0 in
    let q : stands text at 63 ≡ false = and_false (nat_lt at (length text)) (c == 63) one.1 in
    let t : is_trigraph text at ≡ false = false_and _ _ (false_and _ _ (false_and (stands text at 63) (stands text (at + 1) 63) q)) in
    let inner : (at == 0) ≡ false = ne_eqb at 0 (λ e. omega arith) in
    let m : is_byte_order_mark text at ≡ false = false_and _ _ (false_and _ _ (false_and (at == 0) (stands text 0 239) inner)) in
    let value : value_at text at ≡ c = ordinary_value (stands text at 10) (stands text at 13) (stands text (at + 1) 10) (is_trigraph text at) (is_byte_order_mark text at) c (trigraph (get_or text (at + 2) 0)) r t m
    (λ e. eqb-true c 10 (both_true (nat_lt at (length text)) (c == 10) e).1) in
    let width : width_at text at ≡ 1 = ordinary_width (stands text at 10) (stands text at 13) (stands text (at + 1) 10) (is_trigraph text at) (is_byte_order_mark text at) r t m in
    let splice : is_splice text at ≡ false = false_and (value_at text at == 92) _ (ap (λ (v : ℕ). v == 92) value ∙ two.1) in
    and_true (value_at text at == c && width_at text at == 1) (not (is_splice text at))
    (and_true (value_at text at == c) (width_at text at == 1) (eq-eqb (value_at text at) c value) (eq-eqb (width_at text at) 1 width)) (not_from_false (is_splice text at) splice)

below : (a b : ℕ) → nat_lt a b ≡ true → a < b
below a b e = grind (arith, nat_tests)

above : (a b : ℕ) → nat_lt a b ≡ false → b ≤ a
above a b e = grind (arith, nat_tests)

-- what holds below a number, and from there up to another
two_parts : (P : ℕ → Type 0) (m n : ℕ) → ((i : ℕ) → i < m → P i) → ((i : ℕ) → m ≤ i → i < n → P i) → (i : ℕ) → i < n → P i
two_parts P m n p q i h = elim (nat_lt i m) as (λ b. nat_lt i m ≡ b → P i) [ true ↦ λ e. p i (below i m e) | false ↦ λ e. q i (above i m e) h ] refl

after_some : (at i : ℕ) → at + 1 ≤ i → 0 < i
after_some at i h = omega arith

-- each byte up to the next special one is a character
pub plain_up_to : (text : List ℕ) (at next : ℕ) → ((i : ℕ) → i < at → is_plain_at text i ≡ true) → is_plain_at text at ≡ true
    → ((i : ℕ) → at + 1 ≤ i → i < next → is_special (get_or text i 0) ≡ false) → (i : ℕ) → i < next → is_plain_at text i ≡ true
plain_up_to text at next before here after =
    two_parts (λ (i : ℕ). is_plain_at text i ≡ true) (at + 1) next (below_more (λ (i : ℕ). is_plain_at text i ≡ true) at before here)
    (λ i h k. ordinary text i (after_some at i h) (after i h k))

-- ---- each byte is a character

-- what is so of such a byte
pub record IsByte (text : List ℕ) (at : ℕ) : Type 0 where
  pub value : value_at text at ≡ get_or text at 0
  pub width : width_at text at ≡ 1
  pub kept : is_splice text at ≡ false

pub plain_byte : (text : List ℕ) (at : ℕ) → is_plain_at text at ≡ true → IsByte text at
plain_byte text at e =
    let two = both_true (value_at text at == get_or text at 0 && width_at text at == 1) (not (is_splice text at)) e in
    let one = both_true (value_at text at == get_or text at 0) (width_at text at == 1) two.0 in
    record { value = eqb-true (value_at text at) (get_or text at 0) one.0; width = eqb-true (width_at text at) 1 one.1; kept = not-true (is_splice text at) two.1 }

plain_piece : (text : List ℕ) (n at : ℕ) → IsPlain text → at < length text
    → characters_in text (suc n) at ≡ record { value = get_or text at 0; from = at; to = at + 1 } ∷ characters_in text n (at + 1)
plain_piece text n at p h =
    let byte = plain_byte text at (p at h) in
    kept_piece text n at h byte.kept
    ∙ (λ i. record { value = byte.value i; from = at; to = at + byte.width i } ∷ characters_in text n (at + byte.width i))

plain_values : (text : List ℕ) (n at : ℕ) → IsPlain text → at + n ≡ length text → values (characters_in text n at) ≡ drop at text
plain_values text zero at p e = sym (drop_of_length-le text {i = at} (omega arith))
plain_values text (suc n) at p e =
    let h : at < length text = omega arith in
    ap values (plain_piece text n at p h) ∙ ap (λ (xs : List ℕ). get_or text at 0 ∷ xs) (plain_values text n (at + 1) p (omega arith))
    ∙ ap (λ (k : ℕ). get_or text at 0 ∷ drop k text) (add-one at) ∙ sym (drop-cons text at 0 h)

plain_starts : (text : List ℕ) (n at : ℕ) → IsPlain text → at + n ≡ length text → starts (characters_in text n at) ≡ range_with_len at n
plain_starts text zero at p e = refl
plain_starts text (suc n) at p e =
    let h : at < length text = omega arith in
    ap starts (plain_piece text n at p h) ∙ ap (λ (xs : List ℕ). at ∷ xs) (plain_starts text n (at + 1) p (omega arith))

pub plain_held : (text chars : List ℕ) → length text ≤ 2 ^ 28 → IsPlain text → chars ≡ text → IsHeld text chars None
unfolding characters
plain_held text chars h p e = record {
  short = h;
  values = e ∙ sym (plain_values text (length text) 0 p (omega arith));
  starts = sym (plain_starts text (length text) 0 p (omega arith));
}

-- A word with no quote after it is the prefix of no literal.
use Rattle.std.proofs.Common.{◌≡◌, ◌⊎◌, ℕ, ◌+◌, ◌-◌, ◌<◌, ◌≤◌, List, true, false, arith, inl, inr, refl, sym, ◌∙◌, subst, length, slice_index, ⊎_elim}
use Rattle.std.proofs.lemmas.Bool.{false≢true}
use Rattle.cl_lex.specs.Bytes.{is_name_byte, is_name_start, is_quote}
use Rattle.cl_lex.specs.Spelling.{AllPass, IsChar, IsStr, char_prefix, str_prefix}
use Rattle.cl_lex.proofs.Classes.{char_prefix_is, str_prefix_is}

module _ (cs : List ℕ) (at to : ℕ) (low : at + 1 ≤ to) (first : is_name_start (slice_index cs at) ≡ true) (all : AllPass cs is_name_byte (at + 1) to)
    (quote : to < length cs → is_quote (slice_index cs to) ≡ false) where
  order : (x y : ℕ) → x ≤ y → (x < y) ⊎ (x ≡ y)
  order x y l = grind arith

  -- no quote stands right after the prefix
  name_not : (i q : ℕ) → at + 1 ≤ i → i < to → slice_index cs i ≡ q → is_name_byte q ≡ false → ⊥
  name_not i q l h e f = false≢true (sym f ∙ subst (λ (x : ℕ). is_name_byte x ≡ true) e (all i l h))

  start_not : (q : ℕ) → slice_index cs at ≡ q → is_name_start q ≡ false → ⊥
  start_not q e f = false≢true (sym f ∙ subst (λ (x : ℕ). is_name_start x ≡ true) e first)

  quote_not : (q : ℕ) → to < length cs → slice_index cs to ≡ q → is_quote q ≡ true → ⊥
  quote_not q l e f = false≢true (sym (quote l) ∙ subst (λ (x : ℕ). is_quote x ≡ true) (sym e) f)

  at_one : (q : ℕ) → at + 1 < length cs → slice_index cs (at + 1) ≡ q → is_name_byte q ≡ false → is_quote q ≡ true → ⊥
  at_one q within e f g = go (order (at + 1) to low)
    where
      go : (at + 1 < to) ⊎ (at + 1 ≡ to) → ⊥
      go (inl h) = name_not (at + 1) q (omega arith) h e f
      go (inr h) = quote_not q (subst (λ (n : ℕ). n < length cs) h within) (subst (λ (n : ℕ). slice_index cs n ≡ q) h e) g

  pub no_char : (m : ℕ) → IsChar cs at m → ⊥
  no_char m s = go (char_prefix_is cs at)
    where
      within : at + char_prefix cs at + 1 ≤ m - 1
      within = s.2.order

      inside : m - 1 < length cs
      inside = s.2.within

      go : (char_prefix cs at ≡ 0) ⊎ ((char_prefix cs at ≡ 1) × (is_name_start (slice_index cs at) ≡ true)) → ⊥
      go (inl p) = start_not 39 (subst (λ (n : ℕ). slice_index cs n ≡ 39) (let e : at + char_prefix cs at ≡ at = omega arith in e) s.0) refl
      go (inr p) =
          let one : char_prefix cs at ≡ 1 = p.0 in
          at_one 39 (omega (arith, within, inside, one))
          (subst (λ (n : ℕ). slice_index cs n ≡ 39) (let e : at + char_prefix cs at ≡ at + 1 = omega arith in e) s.0) refl refl

  pub no_str : (to < length cs → is_name_byte (slice_index cs to) ≡ false) → (m : ℕ) → IsStr cs at m → ⊥
  no_str stops m s = go (str_prefix_is cs at)
    where
      within : at + str_prefix cs at + 1 ≤ m - 1
      within = s.2.order

      inside : m - 1 < length cs
      inside = s.2.within

      at_two : at + 2 < length cs → slice_index cs (at + 2) ≡ 34 → slice_index cs (at + 1) ≡ 56 → ⊥
      at_two l e f = by (order (at + 1) to low)
        where
          after : (at + 2 < to) ⊎ (at + 2 ≡ to) → ⊥
          after (inl h) = name_not (at + 2) 34 (omega arith) h e refl
          after (inr h) = quote_not 34 (subst (λ (n : ℕ). n < length cs) h l) (subst (λ (n : ℕ). slice_index cs n ≡ 34) h e) refl

          by : (at + 1 < to) ⊎ (at + 1 ≡ to) → ⊥
          by (inl h) = after (order (at + 2) to (omega arith))
          by (inr h) = false≢true (sym (stops (omega arith)) ∙ subst (λ (x : ℕ). is_name_byte x ≡ true) (sym (subst (λ (n : ℕ). slice_index cs n ≡ 56) h f)) refl)

      one_more : str_prefix cs at ≡ 1 → ⊥
      one_more one =
          at_one 34 (omega (arith, within, inside, one))
          (subst (λ (n : ℕ). slice_index cs n ≡ 34) (let e : at + str_prefix cs at ≡ at + 1 = omega arith in e) s.0) refl refl

      two_more : (str_prefix cs at ≡ 2) × (slice_index cs (at + 1) ≡ 56) → ⊥
      two_more two =
          let is : str_prefix cs at ≡ 2 = two.0 in
          at_two (omega (arith, within, inside, is))
          (subst (λ (n : ℕ). slice_index cs n ≡ 34) (let e : at + str_prefix cs at ≡ at + 2 = omega (arith, is) in e) s.0) two.1

      go : ((str_prefix cs at ≡ 0) × (char_prefix cs at ≡ 0))
          ⊎ ((((str_prefix cs at ≡ 1) ⊎ ((str_prefix cs at ≡ 2) × (slice_index cs (at + 1) ≡ 56))) × (char_prefix cs at ≡ 1))
          × (is_name_start (slice_index cs at) ≡ true)) → ⊥
      go (inl p) =
          let none : str_prefix cs at ≡ 0 = p.0 in
          start_not 34 (subst (λ (n : ℕ). slice_index cs n ≡ 34) (let e : at + str_prefix cs at ≡ at = omega (arith, none) in e) s.0) refl
      go (inr p) = let q = p.0 in ⊎_elim one_more two_more q.0

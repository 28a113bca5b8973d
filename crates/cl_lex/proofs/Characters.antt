-- The characters of a text, piece by piece.
use Rattle.std.proofs.Common.{◌≡◌, ◌∙◌, ℕ, zero, suc, ◌<◌, ◌≤◌, ◌+◌, ◌-◌, ◌==◌, List, [], ◌∷◌, length, get_or, refl, sym, ap, subst, arith, Bool, true, false, cond, nat_lt, ◌&&◌}
use Rattle.std.specs.Prelude.{not, if◌then◌else◌}
use Rattle.std.proofs.lemmas.Bool.Decides.{nat_tests}
use Rattle.cl_lex.specs.Lexing.{nothing, begins, ends}
use Rattle.cl_lex.specs.Source.{Character, stands, newline_width, trigraph, is_trigraph, is_byte_order_mark, value_at, width_at, is_splice, splice_width, characters_in, characters}

-- ---- widths

pub both_true : (a b : Bool) → (a && b) ≡ true → (a ≡ true) × (b ≡ true)
both_true true b e = (refl, e)
both_true false b e = (e, cc)

pub stands_within : (text : List ℕ) (at c : ℕ) → stands text at c ≡ true → at < length text
stands_within text at c e = let one : nat_lt at (length text) ≡ true = (both_true (nat_lt at (length text)) (get_or text at 0 == c) e).0 in grind (arith, nat_tests)

some_width : (n : ℕ) (t b : Bool) → 0 < cond (not (n == 0)) n (cond t 3 (cond b 3 1))
some_width n true b = grind (arith, nat_tests)
some_width n false true = grind (arith, nat_tests)
some_width n false false = grind (arith, nat_tests)

pub width_some : (text : List ℕ) (at : ℕ) → 0 < width_at text at
width_some text at = some_width (newline_width text at) (is_trigraph text at) (is_byte_order_mark text at)

newline_cases : (a r f : Bool) (at n : ℕ) → at < n → (f ≡ true → at + 1 < n) → at + cond a 1 (cond r (cond f 2 1) 0) ≤ n
newline_cases true r f at n h l = omega arith
newline_cases false true true at n h l = let k : at + 1 < n = l refl in omega arith
newline_cases false true false at n h l = omega arith
newline_cases false false f at n h l = omega arith

newline_within : (text : List ℕ) (at : ℕ) → at < length text → at + newline_width text at ≤ length text
newline_within text at h = newline_cases (stands text at 10) (stands text at 13) (stands text (at + 1) 10) at (length text) h (stands_within text (at + 1) 10)

newline_some_cases : (a r f : Bool) (at n : ℕ) → (a ≡ true → at < n) → (r ≡ true → at < n) → not (cond a 1 (cond r (cond f 2 1) 0) == 0) ≡ true → at < n
newline_some_cases true r f at n h k l = h refl
newline_some_cases false true f at n h k l = k refl
newline_some_cases false false f at n h k l = absurd (let e : false ≡ true = l in cc)

-- where a line end begins, the text has a byte
newline_at : (text : List ℕ) (at : ℕ) → not (newline_width text at == 0) ≡ true → at < length text
newline_at text at e = newline_some_cases (stands text at 10) (stands text at 13) (stands text (at + 1) 10) at (length text) (stands_within text at 10) (stands_within text at 13) e

trigraph_within : (text : List ℕ) (at : ℕ) → is_trigraph text at ≡ true → at + 2 < length text
trigraph_within text at e =
    let one : (stands text at 63 && stands text (at + 1) 63 && nat_lt (at + 2) (length text)) ≡ true = (both_true (stands text at 63 && stands text (at + 1) 63 && nat_lt (at + 2) (length text)) (not (trigraph (get_or text (at + 2) 0) == 0)) e).0 in
    let two : nat_lt (at + 2) (length text) ≡ true = (both_true (stands text at 63 && stands text (at + 1) 63) (nat_lt (at + 2) (length text)) one).1 in
    grind (arith, nat_tests)

mark_within : (text : List ℕ) (at : ℕ) → is_byte_order_mark text at ≡ true → at + 2 < length text
mark_within text at e =
    let one : (at == 0 && stands text 0 239 && stands text 1 187) ≡ true = (both_true (at == 0 && stands text 0 239 && stands text 1 187) (stands text 2 191) e).0 in
    let two : (at == 0 && stands text 0 239) ≡ true = (both_true (at == 0 && stands text 0 239) (stands text 1 187) one).0 in
    let start : (at == 0) ≡ true = (both_true (at == 0) (stands text 0 239) two).0 in
    let last : 2 < length text = stands_within text 2 191 (both_true (at == 0 && stands text 0 239 && stands text 1 187) (stands text 2 191) e).1 in
    grind (arith, nat_tests)

width_cases : (n : ℕ) (t b : Bool) (at l : ℕ) → at < l → at + n ≤ l → (t ≡ true → at + 2 < l) → (b ≡ true → at + 2 < l) → at + cond (not (n == 0)) n (cond t 3 (cond b 3 1)) ≤ l
width_cases n true b at l h k u v = let w : at + 2 < l = u refl in grind (arith, nat_tests)
width_cases n false true at l h k u v = let w : at + 2 < l = v refl in grind (arith, nat_tests)
width_cases n false false at l h k u v = grind (arith, nat_tests)

pub width_within : (text : List ℕ) (at : ℕ) → at < length text → at + width_at text at ≤ length text
width_within text at h =
    width_cases (newline_width text at) (is_trigraph text at) (is_byte_order_mark text at) at (length text) h (newline_within text at h) (trigraph_within text at) (mark_within text at)

pub splice_within : (text : List ℕ) (at : ℕ) → at < length text → is_splice text at ≡ true → at + splice_width text at ≤ length text
splice_within text at h e =
    let some = (both_true (value_at text at == 92) (not (newline_width text (at + width_at text at) == 0)) e).1 in
    apart at (width_at text at) (newline_width text (at + width_at text at)) (length text)
    (newline_within text (at + width_at text at) (newline_at text (at + width_at text at) some))
  where
    apart : (a b c d : ℕ) → (a + b) + c ≤ d → a + (b + c) ≤ d
    apart a b c d h = omega arith

-- ---- more pieces than there are change nothing

sum_some : (a b : ℕ) → 0 < a → 0 < a + b
sum_some a b h = omega arith

falls : (l at n w : ℕ) → l - at ≤ suc n → 0 < w → l - (at + w) ≤ n
falls l at n w h k = omega arith

none_left : (text : List ℕ) (n at : ℕ) → length text ≤ at → characters_in text n at ≡ []
none_left text zero at h = refl
none_left text (suc n) at h =
    let e : nat_lt at (length text) ≡ false = grind (arith, nat_tests) in
    ap (λ (b : Bool). if b then
    (if is_splice text at then characters_in text n (at + splice_width text at) else
    record { value = value_at text at; from = at; to = at + width_at text at } ∷ characters_in text n (at + width_at text at))
    else []) e

enough : (text : List ℕ) (n m at : ℕ) → length text - at ≤ n → length text - at ≤ m → characters_in text n at ≡ characters_in text m at
enough text zero m at h k = sym (none_left text m at (omega arith))
enough text (suc n) zero at h k = none_left text (suc n) at (omega arith)
enough text (suc n) (suc m) at h k =
    let splice_some : 0 < splice_width text at = sum_some (width_at text at) (newline_width text (at + width_at text at)) (width_some text at) in
    let spliced = enough text n m (at + splice_width text at) (falls (length text) at n (splice_width text at) h splice_some) (falls (length text) at m (splice_width text at) k splice_some) in
    let next = enough text n m (at + width_at text at) (falls (length text) at n (width_at text at) h (width_some text at)) (falls (length text) at m (width_at text at) k (width_some text at)) in
    λ i. if nat_lt at (length text) then
    (if is_splice text at then spliced i else
    record { value = value_at text at; from = at; to = at + width_at text at } ∷ next i)
    else []

-- ---- the characters from a byte on

abbrev pub rest : List ℕ → ℕ → List Character
rest text at = characters_in text (length text - at) at

one_piece : (text : List ℕ) (n at : ℕ) → at < length text
    → characters_in text (suc n) at ≡ (if is_splice text at then characters_in text n (at + splice_width text at) else record { value = value_at text at; from = at; to = at + width_at text at } ∷ characters_in text n (at + width_at text at))
one_piece text n at h =
    let e : nat_lt at (length text) ≡ true = grind (arith, nat_tests) in
    ap (λ (b : Bool). if b then
    (if is_splice text at then characters_in text n (at + splice_width text at) else
    record { value = value_at text at; from = at; to = at + width_at text at } ∷ characters_in text n (at + width_at text at))
    else []) e

pub rest_all : (text : List ℕ) → rest text 0 ≡ characters text
unfolding characters
rest_all text = let e : length text - 0 ≡ length text = omega arith in ap (λ (n : ℕ). characters_in text n 0) e

pub rest_none : (text : List ℕ) (at : ℕ) → length text ≤ at → rest text at ≡ []
rest_none text at h = none_left text (length text - at) at h

left : (l at : ℕ) → at < l → l - at ≡ suc (l - at - 1)
left l at h = omega arith

falls_again : (l at w : ℕ) → at < l → 0 < w → l - (at + w) ≤ l - at - 1
falls_again l at w h k = omega arith

reflexive : (n : ℕ) → n ≤ n
reflexive n = omega arith

-- a splice is no character
pub rest_spliced : (text : List ℕ) (at : ℕ) → at < length text → is_splice text at ≡ true → rest text at ≡ rest text (at + splice_width text at)
rest_spliced text at h e =
    let n : ℕ = length text - at - 1 in
    let some : 0 < splice_width text at = sum_some (width_at text at) (newline_width text (at + width_at text at)) (width_some text at) in
    ap (λ (k : ℕ). characters_in text k at) (left (length text) at h) ∙ one_piece text n at h
    ∙ ap (λ (b : Bool). if b then characters_in text n (at + splice_width text at) else record { value = value_at text at; from = at; to = at + width_at text at } ∷ characters_in text n (at + width_at text at)) e
    ∙ enough text n (length text - (at + splice_width text at)) (at + splice_width text at) (falls_again (length text) at (splice_width text at) h some) (reflexive (length text - (at + splice_width text at)))

pub rest_character : (text : List ℕ) (at : ℕ) → at < length text → is_splice text at ≡ false
    → rest text at ≡ record { value = value_at text at; from = at; to = at + width_at text at } ∷ rest text (at + width_at text at)
rest_character text at h e =
    let n : ℕ = length text - at - 1 in
    ap (λ (k : ℕ). characters_in text k at) (left (length text) at h) ∙ one_piece text n at h
    ∙ ap (λ (b : Bool). if b then characters_in text n (at + splice_width text at) else record { value = value_at text at; from = at; to = at + width_at text at } ∷ characters_in text n (at + width_at text at)) e
    ∙ ap (λ (cs : List Character). record { value = value_at text at; from = at; to = at + width_at text at } ∷ cs)
    (enough text n (length text - (at + width_at text at)) (at + width_at text at) (falls_again (length text) at (width_at text at) h (width_some text at)) (reflexive (length text - (at + width_at text at))))

pub kept_piece : (text : List ℕ) (n at : ℕ) → at < length text → is_splice text at ≡ false
    → characters_in text (suc n) at ≡ record { value = value_at text at; from = at; to = at + width_at text at } ∷ characters_in text n (at + width_at text at)
kept_piece text n at h e =
    one_piece text n at h
    ∙ ap (λ (b : Bool). if b then characters_in text n (at + splice_width text at) else record { value = value_at text at; from = at; to = at + width_at text at } ∷ characters_in text n (at + width_at text at)) e

-- a piece is a splice or a character, where one is left
by_piece : (P : List Character → Type 0) (text : List ℕ) (n at : ℕ) → P []
    → (at < length text → P (characters_in text n (at + splice_width text at)))
    → (at < length text → P (record { value = value_at text at; from = at; to = at + width_at text at } ∷ characters_in text n (at + width_at text at)))
    → P (characters_in text (suc n) at)
by_piece P text n at none spliced kept =
    cases (nat_lt at (length text)) (is_splice text at) (characters_in text n (at + splice_width text at))
    (record { value = value_at text at; from = at; to = at + width_at text at } ∷ characters_in text n (at + width_at text at))
    (λ e. spliced (let h : at < length text = grind (arith, nat_tests) in h)) (λ e. kept (let h : at < length text = grind (arith, nat_tests) in h))
  where
    cases : (b s : Bool) (one two : List Character) → (b ≡ true → P one) → (b ≡ true → P two) → P (if b then (if s then one else two) else [])
    cases true true one two p q = p refl
    cases true false one two p q = q refl
    cases false s one two p q = none

-- ---- where the characters lie

-- a character lies in the text, from a byte on
pub record Lies (text : List ℕ) (low : ℕ) (c : Character) : Type 0 where
  pub after : low ≤ c.from
  pub some : c.from < c.to
  pub within : c.to ≤ length text
  pub width : c.to ≡ c.from + width_at text c.from

lies_later : (text : List ℕ) (at more : ℕ) (c : Character) → Lies text (at + more) c → Lies text at c
lies_later text at more c l = record { after = let h : at + more ≤ c.from = l.after in omega arith; some = l.some; within = l.within; width = l.width }

more : (a b : ℕ) → 0 < b → a < a + b
more a b h = omega arith

lies_first : (text : List ℕ) (at : ℕ) → at < length text → Lies text at (record { value = value_at text at; from = at; to = at + width_at text at })
lies_first text at h = record { after = reflexive at; some = more at (width_at text at) (width_some text at); within = width_within text at h; width = refl }

no_index : {A : Type 0} (i : ℕ) → i < 0 → A
no_index i h = absurd (omega arith)

less : (m j : ℕ) → suc j < suc m → j < m
less m j l = omega arith

abbrev EachLies : List ℕ → ℕ → List Character → Type 0
EachLies text low cs = (i : ℕ) → i < length cs → Lies text low (get_or cs i nothing)

lies_cons : (text : List ℕ) (at w : ℕ) (c : Character) (cs : List Character) → Lies text at c → EachLies text (at + w) cs → EachLies text at (c ∷ cs)
lies_cons text at w c cs first others zero h = first
lies_cons text at w c cs first others (suc i) h = lies_later text at w (get_or cs i nothing) (others i (less (length cs) i h))

lies_in : (text : List ℕ) (n at : ℕ) → EachLies text at (characters_in text n at)
lies_in text zero at = λ i h. no_index i h
lies_in text (suc n) at =
    by_piece (EachLies text at) text n at (λ i h. no_index i h)
    (λ lt i h. lies_later text at (splice_width text at) _ (lies_in text n (at + splice_width text at) i h))
    (λ lt. lies_cons text at (width_at text at) _ _ (lies_first text at lt) (lies_in text n (at + width_at text at)))

-- each character has a byte at least, and lies in the text
pub lies : (text : List ℕ) (i : ℕ) → i < length (characters text) → Lies text 0 (get_or (characters text) i nothing)
unfolding characters
lies text i h = lies_in text (length text) 0 i h

abbrev InOrder : List Character → Type 0
InOrder cs = (i j : ℕ) → i < j → j < length cs → (get_or cs i nothing).to ≤ (get_or cs j nothing).from

order_cons : (text : List ℕ) (c : Character) (cs : List Character) → EachLies text c.to cs → InOrder cs → InOrder (c ∷ cs)
order_cons text c cs all order i zero h l = no_index i h
order_cons text c cs all order zero (suc j) h l = (all j (less (length cs) j l)).after
order_cons text c cs all order (suc i) (suc j) h l = order i j (less j i h) (less (length cs) j l)

order_in : (text : List ℕ) (n at : ℕ) → InOrder (characters_in text n at)
order_in text zero at = λ i j h l. no_index j l
order_in text (suc n) at =
    by_piece InOrder text n at (λ i j h l. no_index j l) (λ lt. order_in text n (at + splice_width text at))
    (λ lt. order_cons text _ _ (lies_in text n (at + width_at text at)) (order_in text n (at + width_at text at)))

-- a character ends before a later one begins
pub in_order : (text : List ℕ) (i j : ℕ) → i < j → j < length (characters text)
    → (get_or (characters text) i nothing).to ≤ (get_or (characters text) j nothing).from
unfolding characters
in_order text i j h l = order_in text (length text) 0 i j h l

count_in : (text : List ℕ) (n at : ℕ) → length (characters_in text n at) ≤ n
count_in text zero at = reflexive 0
count_in text (suc n) at =
    by_piece (λ (cs : List Character). length cs ≤ suc n) text n at (omega arith)
    (λ lt. up (length (characters_in text n (at + splice_width text at))) n (count_in text n (at + splice_width text at)))
    (λ lt. both_up (length (characters_in text n (at + width_at text at))) n (count_in text n (at + width_at text at)))
  where
    up : (a b : ℕ) → a ≤ b → a ≤ suc b
    up a b h = omega arith

    both_up : (a b : ℕ) → a ≤ b → suc a ≤ suc b
    both_up a b h = omega arith

-- a text has at most as many characters as bytes
pub count : (text : List ℕ) → length (characters text) ≤ length text
unfolding characters
count text = count_in text (length text) 0

-- what is made of the characters from one up to another ends after it begins
pub begins_before_ends : (text : List ℕ) (from to : ℕ) → from < to → to ≤ length (characters text) → begins (characters text) from < ends (characters text) to
begins_before_ends text from to h l =
    elim (nat_lt from (to - 1)) as (λ b. nat_lt from (to - 1) ≡ b → begins (characters text) from < ends (characters text) to) [
      | true ↦ λ e.
          let k : from < to - 1 = grind (arith, nat_tests) in
          chain (begins (characters text) from) (ends (characters text) (from + 1)) (begins (characters text) (to - 1)) (ends (characters text) to)
          (subst (λ (n : ℕ). begins (characters text) from < (get_or (characters text) n nothing).to) (let s : from ≡ from + 1 - 1 = omega arith in s) (lies text from (omega arith)).some)
          (subst (λ (n : ℕ). (get_or (characters text) n nothing).to ≤ begins (characters text) (to - 1)) (let s : from ≡ from + 1 - 1 = omega arith in s) (in_order text from (to - 1) k (omega arith)))
          (lies text (to - 1) (omega arith)).some
      | false ↦ λ e.
          let k : to - 1 ≡ from = grind (arith, nat_tests) in
          subst (λ (n : ℕ). begins (characters text) n < ends (characters text) to) k (lies text (to - 1) (omega arith)).some
    ] refl
  where
    chain : (a b c d : ℕ) → a < b → b ≤ c → c < d → a < d
    chain a b c d p q r = omega arith

-- and what is made of later ones begins after that
pub ends_before_begins : (text : List ℕ) (to from : ℕ) → 0 < to → to ≤ from → from < length (characters text) → ends (characters text) to ≤ begins (characters text) from
ends_before_begins text to from s h l = in_order text (to - 1) from (let k : to - 1 < from = omega arith in k) l

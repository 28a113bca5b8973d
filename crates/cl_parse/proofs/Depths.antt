-- The tokens at the depth of an item, one after the other.
use Rattle.std.proofs.Common.{◌≡◌, ℕ, zero, suc, ◌+◌, ◌-◌, ◌<◌, ◌≤◌, Bool, true, false, List, ⊎_elim, refl, sym, ◌∙◌, ap, subst, arith}
use Rattle.std.proofs.lemmas.Bool.{both_ways, cases_lt, false≢true}
use Rattle.std.specs.Prelude.{◌||◌, ◌&&◌, not}
use Rattle.cl_base.specs.declared.token.PpToken.{PpToken}
use Rattle.cl_parse.specs.Extents.{past, after, AtDepth, Stops, NoEqual, is_equal, is_semicolon, begins_body}

pub past_more : (pairs : List ℕ) (i : ℕ) → i < past pairs i
past_more pairs i = grind arith

pub after_more : (pairs : List ℕ) (n i : ℕ) → n + i ≤ after pairs n i
after_more pairs zero i = omega arith
after_more pairs (suc n) i =
    let a : n + past pairs i ≤ after pairs n (past pairs i) = after_more pairs n (past pairs i) in
    let b : i < past pairs i = past_more pairs i in
    omega arith

-- what stands at a depth from a token on is that token, or at the depth from the next one on
pub no_between : (pairs : List ℕ) (n i : ℕ) → after pairs n i < past pairs i → after pairs n i ≡ i
no_between pairs zero i l = refl
no_between pairs (suc n) i l = let a : n + past pairs i ≤ after pairs n (past pairs i) = after_more pairs n (past pairs i) in absurd (omega arith)

pub after_add : (pairs : List ℕ) (a b i : ℕ) → after pairs (a + b) i ≡ after pairs b (after pairs a i)
after_add pairs zero b i = let e : 0 + b ≡ b = omega arith in ap (λ (k : ℕ). after pairs k i) e
after_add pairs (suc a) b i =
    let e : suc a + b ≡ suc (a + b) = omega arith in
    ap (λ (k : ℕ). after pairs k i) e ∙ after_add pairs a b (past pairs i)

ahead : (pairs : List ℕ) (n m from : ℕ) → n ≤ m → after pairs m from ≡ after pairs (m - n) (after pairs n from)
ahead pairs n m from l =
    let e : m ≡ n + (m - n) = omega arith in
    ap (λ (k : ℕ). after pairs k from) e ∙ after_add pairs n (m - n) from

-- of the tokens at a depth none stands between one and the next
pub same_place : (pairs : List ℕ) (from at i : ℕ) → AtDepth pairs from at → AtDepth pairs from i → at ≤ i → i < past pairs at → i ≡ at
same_place pairs from at i (n, e) (m, f) l k =
    ⊎_elim
    (λ (b : m < n). (
    let g : at ≡ after pairs (n - m) i = sym e ∙ ahead pairs m n from (omega arith) ∙ ap (after pairs (n - m)) f in
    let h : (n - m) + i ≤ after pairs (n - m) i = after_more pairs (n - m) i in
    absurd (omega arith)))
    (λ (b : n ≤ m). (
    let g : i ≡ after pairs (m - n) at = sym f ∙ ahead pairs n m from b ∙ ap (after pairs (m - n)) e in
    let h : after pairs (m - n) at < past pairs at = subst (λ (x : ℕ). x < past pairs at) g k in
    g ∙ no_between pairs (m - n) at h))
    (cases_lt m n)

pub goes_past : (pairs : List ℕ) (from at : ℕ) → AtDepth pairs from at → AtDepth pairs from (past pairs at)
goes_past pairs from at (n, e) = (n + 1, after_add pairs n 1 from ∙ ap (past pairs) e)

-- what the walk knows of `=` before a token
pub record Signs (tokens : List PpToken) (pairs : List ℕ) (from at : ℕ) (equal : Bool) : Type 0 where
  pub none : equal ≡ false → NoEqual tokens pairs from at
  pub some : equal ≡ true → (j : ℕ) × AtDepth pairs from j × (j < at) × (is_equal tokens j ≡ true)

before_none : (pairs : List ℕ) (from j : ℕ) → AtDepth pairs from j → j < from → ⊥
before_none pairs from j (n, e) l = let h : n + from ≤ after pairs n from = after_more pairs n from in omega arith

pub no_signs : (tokens : List PpToken) (pairs : List ℕ) (from : ℕ) → Signs tokens pairs from from false
no_signs tokens pairs from = record { none = λ e j d l. absurd (before_none pairs from j d l); some = λ e. absurd (false≢true e) }

-- one token more
signs_none : (tokens : List PpToken) (pairs : List ℕ) (from at : ℕ) → AtDepth pairs from at → is_equal tokens at ≡ false → NoEqual tokens pairs from at → NoEqual tokens pairs from (past pairs at)
signs_none tokens pairs from at d e none j f l =
    ⊎_elim
    (λ (k : j < at). none j f k)
    (λ (k : at ≤ j). subst (λ (x : ℕ). is_equal tokens x ≡ false) (sym (same_place pairs from at j d f k l)) e)
    (cases_lt j at)

signs_some : (tokens : List PpToken) (pairs : List ℕ) (from at : ℕ) (equal sign : Bool) → AtDepth pairs from at → is_equal tokens at ≡ sign → Signs tokens pairs from at equal
    → (equal || sign) ≡ true → (j : ℕ) × AtDepth pairs from j × (j < past pairs at) × (is_equal tokens j ≡ true)
signs_some tokens pairs from at true sign d e signs h =
    let old = signs.some refl in
    let l : old.0 < at = old.2 in
    let m : at < past pairs at = past_more pairs at in
    (old.0, old.1, omega arith, old.3)
signs_some tokens pairs from at false true d e signs h = (at, d, past_more pairs at, e)
signs_some tokens pairs from at false false d e signs h = absurd (false≢true h)

pub more_signs : (tokens : List PpToken) (pairs : List ℕ) (from at : ℕ) (equal sign : Bool) → AtDepth pairs from at → is_equal tokens at ≡ sign → Signs tokens pairs from at equal
    → Signs tokens pairs from (past pairs at) (equal || sign)
more_signs tokens pairs from at true sign d e signs = record { none = λ h. absurd (false≢true (sym h)); some = signs_some tokens pairs from at true sign d e signs }
more_signs tokens pairs from at false true d e signs = record { none = λ h. absurd (false≢true (sym h)); some = signs_some tokens pairs from at false true d e signs }
more_signs tokens pairs from at false false d e signs = record { none = λ h. signs_none tokens pairs from at d e (signs.none refl); some = signs_some tokens pairs from at false false d e signs }

-- no item stops before a place
abbrev pub NoStop : List PpToken → List ℕ → ℕ → ℕ → Type 0
NoStop tokens pairs from at = (i : ℕ) → i < at → Stops tokens pairs from i → ⊥

pub no_stop : (tokens : List PpToken) (pairs : List ℕ) (from : ℕ) → NoStop tokens pairs from from
no_stop tokens pairs from i l s = before_none pairs from i s.0 l

and_true : (b : Bool) → (b && not false) ≡ false → b ≡ false
and_true true e = e
and_true false e = refl

stops_not : (tokens : List PpToken) (pairs : List ℕ) (from at : ℕ) (equal : Bool) → AtDepth pairs from at → is_semicolon tokens at ≡ false → (begins_body tokens pairs at && not equal) ≡ false
    → Signs tokens pairs from at equal → Stops tokens pairs from at → ⊥
stops_not tokens pairs from at equal d e b signs (f, g) =
    ⊎_elim
    (λ (s : is_semicolon tokens at ≡ true). both_ways (is_semicolon tokens at) e s)
    (λ (s : (begins_body tokens pairs at ≡ true) × NoEqual tokens pairs from at). not_both equal s.0 s.1 b signs)
    g
  where
    not_both : (q : Bool) → begins_body tokens pairs at ≡ true → NoEqual tokens pairs from at → (begins_body tokens pairs at && not q) ≡ false → Signs tokens pairs from at q → ⊥
    not_both true s n b signs = let one = signs.some refl in both_ways (is_equal tokens one.0) (n one.0 one.1 one.2) one.3
    not_both false s n b signs = both_ways (begins_body tokens pairs at) (and_true (begins_body tokens pairs at) b) s

pub more_stop : (tokens : List PpToken) (pairs : List ℕ) (from at : ℕ) (equal : Bool) → AtDepth pairs from at → is_semicolon tokens at ≡ false → (begins_body tokens pairs at && not equal) ≡ false
    → Signs tokens pairs from at equal → NoStop tokens pairs from at → NoStop tokens pairs from (past pairs at)
more_stop tokens pairs from at equal d e b signs none i l s =
    ⊎_elim
    (λ (k : i < at). none i k s)
    (λ (k : at ≤ i). stops_not tokens pairs from at equal d e b signs (subst (Stops tokens pairs from) (same_place pairs from at i d s.0 k l) s))
    (cases_lt i at)

-- The first tokens that tell where an item ends.
use Rattle.std.proofs.Common.{◌≡◌, ◌⊎◌, ℕ, ◌+◌, ◌-◌, ◌<◌, ◌≤◌, Bool, true, false, List, ⊎_elim, inl, inr, refl, sym, ◌∙◌, ap, subst, arith, length}
use Rattle.std.proofs.lemmas.Bool.{both_ways, cases_lt}
use Rattle.cl_base.specs.declared.token.PpToken.{PpToken}
use Rattle.cl_parse.specs.Extents.{AtDepth, NoEqual, Stops, after, begins_body, is_semicolon, past, past_stop, partner}
use Rattle.cl_parse.specs.code.Marks.{Ends, IsFirst, Reaches, is_sign}
use Rattle.cl_parse.specs.declared.marks.Sign.{Sign}
use Rattle.cl_parse.proofs.Depths.{after_add, after_more, goes_past, same_place}
use Rattle.cl_parse.proofs.Bounds.{body_ahead}

-- ---- a walk from a token

-- no such token was passed
abbrev pub NoSign : List PpToken → List ℕ → Sign → ℕ → ℕ → Type 0
NoSign tokens pairs sign from at = (i : ℕ) → i < at → AtDepth pairs from i → is_sign tokens pairs sign i ≡ false

pub none_before : (tokens : List PpToken) (pairs : List ℕ) (sign : Sign) (from : ℕ) → NoSign tokens pairs sign from from
none_before tokens pairs sign from i l (n, e) = let h : n + from ≤ after pairs n from = after_more pairs n from in absurd (omega arith)

pub none_more : (tokens : List PpToken) (pairs : List ℕ) (sign : Sign) (from at : ℕ) → AtDepth pairs from at → is_sign tokens pairs sign at ≡ false → NoSign tokens pairs sign from at → NoSign tokens pairs sign from (past pairs at)
none_more tokens pairs sign from at d e none i l f =
    ⊎_elim
    (λ (k : i < at). none i k f)
    (λ (k : at ≤ i). subst (λ (x : ℕ). is_sign tokens pairs sign x ≡ false) (sym (same_place pairs from at i d f k l)) e)
    (cases_lt i at)

-- ---- from a later token on

through : (pairs : List ℕ) (from to i : ℕ) → AtDepth pairs from to → AtDepth pairs to i → AtDepth pairs from i
through pairs from to i (n, e) (m, f) = (n + m, after_add pairs n m from ∙ ap (after pairs m) e ∙ f)

between : (pairs : List ℕ) (from to i : ℕ) → AtDepth pairs from to → AtDepth pairs from i → to ≤ i → AtDepth pairs to i
between pairs from to i (n, e) (m, f) l =
    ⊎_elim
    (λ (b : m < n). (
    let c : n ≡ m + (n - m) = omega arith in
    let g : to ≡ after pairs (n - m) i = sym e ∙ ap (λ (k : ℕ). after pairs k from) c ∙ after_add pairs m (n - m) from ∙ ap (after pairs (n - m)) f in
    let h : (n - m) + i ≤ after pairs (n - m) i = after_more pairs (n - m) i in
    absurd (omega arith)))
    (λ (b : n ≤ m). (
    let c : m ≡ n + (m - n) = omega arith in
    let g : after pairs (m - n) to ≡ i = sym (ap (λ (k : ℕ). after pairs k from) c ∙ after_add pairs n (m - n) from ∙ ap (after pairs (m - n)) e) ∙ f in
    (m - n, g)))
    (cases_lt m n)

pub first_later : (tokens : List PpToken) (pairs : List ℕ) (sign : Sign) (from to at : ℕ) → IsFirst tokens pairs sign from at → Reaches pairs (length tokens) from to → to ≤ at → IsFirst tokens pairs sign to at
first_later tokens pairs sign from to at first reaches l =
    let w : at ≤ length tokens = first.within in
    ⊎_elim
    (λ (e : to ≡ length tokens). record {
      within = w;
      stands = λ k. absurd (omega arith);
      none = λ i k (n, f). (let h : n + to ≤ after pairs n to = after_more pairs n to in absurd (omega arith));
    })
    (λ (d : AtDepth pairs from to). record {
      within = w;
      stands = λ k. (let s = first.stands k in (between pairs from to at d s.0 l, s.1));
      none = λ i k f. first.none i k (through pairs from to i d f);
    })
    reaches

-- ---- where the next item begins

pub ends_past : (tokens : List PpToken) (pairs : List ℕ) (from i : ℕ) → i ≤ length tokens → (i < length tokens → Stops tokens pairs from i) → Ends pairs (length tokens) from (past_stop tokens pairs i)
ends_past tokens pairs from i w stops l = ⊎_elim (λ (k : i < length tokens). within k) (λ (k : length tokens ≤ i). inl (grind arith)) (cases_lt i (length tokens))
  where
    body : (b : Bool) → is_semicolon tokens i ≡ b → i < length tokens → AtDepth pairs from i → (b ≡ false → i < partner pairs i) → Reaches pairs (length tokens) from (past_stop tokens pairs i)
    body true e k d f =
        let s : past_stop tokens pairs i ≡ i + 1 = grind arith in
        let m : partner pairs i < i + 1 = subst (λ (n : ℕ). partner pairs n < i + 1) (omega (arith, s)) (subst (λ (n : ℕ). partner pairs (n - 1) < n) s l) in
        let p : past pairs i ≡ past_stop tokens pairs i = grind arith in
        inr (subst (AtDepth pairs from) p (goes_past pairs from i d))
    body false e k d f =
        let ahead : i < partner pairs i = f refl in
        ⊎_elim
        (λ (b : partner pairs i < length tokens). (
        let p : past pairs i ≡ past_stop tokens pairs i = grind arith in
        inr (subst (AtDepth pairs from) p (goes_past pairs from i d))))
        (λ (b : length tokens ≤ partner pairs i). inl (grind arith))
        (cases_lt (partner pairs i) (length tokens))

    body_of : (is_semicolon tokens i ≡ true) ⊎ ((begins_body tokens pairs i ≡ true) × NoEqual tokens pairs from i) → is_semicolon tokens i ≡ false → i < partner pairs i
    body_of (inl s) f = absurd (both_ways (is_semicolon tokens i) f s)
    body_of (inr b) f = body_ahead tokens pairs i b.0

    within : i < length tokens → Reaches pairs (length tokens) from (past_stop tokens pairs i)
    within k = let s = stops k in body (is_semicolon tokens i) refl k s.0 (body_of s.1)

-- The tokens of a condition, one after the other.
use Rattle.std.proofs.Common.{◌≡◌, ℕ, zero, suc, ◌+◌, ◌<◌, ◌≤◌, ◌&&◌, ◌||◌, not, Bool, true, false, nat_lt, List, [], ◌∷◌, ◌++◌, Option, refl, sym, ap, ◌∙◌, arith, length, drop, append_assoc, append-nil, if◌then◌else◌}
use Rattle.std.proofs.lemmas.Bool.Decides.{nat_tests}
use Rattle.cl_base.specs.declared.macros.Macro.{Macro}
use Rattle.cl_base.specs.declared.token.Token.{Token}
use Rattle.cl_base.specs.declared.token.PpToken.{PpToken}
use Rattle.cl_pp.specs.Defined.{asked, asked_behind, asked_for, decided, decided_behind, goes_past, replaced, taken}
use Rattle.cl_pp.specs.code.Deciding.{asked_from, decided_from}

-- ---- what the code goes over is what a look back tells

-- so many of the tokens behind a place belong to what is before it
abbrev Leaves : List Token → List Token → ℕ → Type 0
Leaves before behind n = (k : ℕ) → goes_past k before behind ≡ nat_lt k n

is_hidden : (a p q : Bool) → p ≡ true → ((a && not p) || q) ≡ q
is_hidden false p q e = refl
is_hidden true p q e = ap (λ (x : Bool). not x || q) e

or_none : (a : Bool) → ((a && true) || false) ≡ a
or_none false = refl
or_none true = refl

is_shown : (a p q : Bool) → p ≡ false → q ≡ false → ((a && not p) || q) ≡ a
is_shown a p q e f = ap (λ (x : Bool). (a && not x) || q) e ∙ ap (λ (x : Bool). (a && true) || x) f ∙ or_none a

none_below : (k : ℕ) → nat_lt k 0 ≡ false
none_below k = grind (arith, nat_tests)

some_below : (n : ℕ) → nat_lt 0 (suc n) ≡ true
some_below n = grind (arith, nat_tests)

step_below : (k n : ℕ) → nat_lt (suc k) (suc n) ≡ nat_lt k n
step_below k n = grind (arith, nat_tests)

leaves_none : (behind : List Token) → Leaves [] behind 0
leaves_none behind k = sym (none_below k)

leaves_fewer : (before : List Token) (t : Token) (ts : List Token) (n : ℕ) → Leaves before (t ∷ ts) (suc n) → Leaves (t ∷ before) ts n
leaves_fewer before t ts n h k = is_hidden (nat_lt k (taken t ts)) (goes_past 0 before (t ∷ ts)) (goes_past (suc k) before (t ∷ ts)) (h 0 ∙ some_below n) ∙ h (suc k) ∙ step_below k n

leaves_taken : (before : List Token) (t : Token) (ts : List Token) → Leaves before (t ∷ ts) 0 → Leaves (t ∷ before) ts (taken t ts)
leaves_taken before t ts h k = is_shown (nat_lt k (taken t ts)) (goes_past 0 before (t ∷ ts)) (goes_past (suc k) before (t ∷ ts)) (h 0 ∙ none_below 0) (h (suc k) ∙ none_below (suc k))

decided_same : (file : ℕ) (macros : List ℕ → Option Macro) (n : ℕ) (before ts : List Token) → Leaves before ts n → decided_behind file macros before ts ≡ decided_from file macros n ts
decided_same file macros n before [] h = refl
decided_same file macros (suc n) before (t ∷ ts) h =
    ap (λ (b : Bool). (if b then [] else replaced file macros t ts ∷ []) ++ decided_behind file macros (t ∷ before) ts) (h 0 ∙ some_below n)
    ∙ decided_same file macros n (t ∷ before) ts (leaves_fewer before t ts n h)
decided_same file macros zero before (t ∷ ts) h =
    ap (λ (b : Bool). (if b then [] else replaced file macros t ts ∷ []) ++ decided_behind file macros (t ∷ before) ts) (h 0 ∙ none_below 0)
    ∙ ap (λ (xs : List PpToken). replaced file macros t ts ∷ xs) (decided_same file macros (taken t ts) (t ∷ before) ts (leaves_taken before t ts h))

asked_same : (n : ℕ) (before ts : List Token) → Leaves before ts n → asked_behind before ts ≡ asked_from n ts
asked_same n before [] h = refl
asked_same (suc n) before (t ∷ ts) h =
    ap (λ (b : Bool). (if b then [] else asked_for t ts) ++ asked_behind (t ∷ before) ts) (h 0 ∙ some_below n)
    ∙ asked_same n (t ∷ before) ts (leaves_fewer before t ts n h)
asked_same zero before (t ∷ ts) h =
    ap (λ (b : Bool). (if b then [] else asked_for t ts) ++ asked_behind (t ∷ before) ts) (h 0 ∙ none_below 0)
    ∙ ap (λ (xs : List (List ℕ)). asked_for t ts ++ xs) (asked_same (taken t ts) (t ∷ before) ts (leaves_taken before t ts h))

pub decided_is : (file : ℕ) (macros : List ℕ → Option Macro) (ts : List Token) → decided file macros ts ≡ decided_from file macros 0 ts
decided_is file macros ts = decided_same file macros 0 [] ts (leaves_none ts)

pub asked_is : (ts : List Token) → asked ts ≡ asked_from 0 ts
asked_is ts = asked_same 0 [] ts (leaves_none ts)

-- ---- the code's loops

-- those that belong to what is before are passed
passed : (file : ℕ) (macros : List ℕ → Option Macro) (n : ℕ) (ts : List Token) → n ≤ length ts → decided_from file macros n ts ≡ decided_from file macros 0 (drop n ts)
passed file macros zero ts h = refl
passed file macros (suc n) [] h = absurd (omega arith)
passed file macros (suc n) (t ∷ ts) h = passed file macros n ts (omega arith)

passed_names : (n : ℕ) (ts : List Token) → n ≤ length ts → asked_from n ts ≡ asked_from 0 (drop n ts)
passed_names zero ts h = refl
passed_names (suc n) [] h = absurd (omega arith)
passed_names (suc n) (t ∷ ts) h = passed_names n ts (omega arith)

pub decided_on : (file : ℕ) (macros : List ℕ → Option Macro) (tokens : List Token) (all new : List PpToken) (rest after left : List Token) (token : Token) (count : ℕ) (it : PpToken)
    → decided_from file macros 0 tokens ≡ all ++ decided_from file macros 0 rest → rest ≡ token ∷ after → count ≡ taken token after → count ≤ length after → it ≡ replaced file macros token after
    → new ≡ all ++ it ∷ [] → left ≡ drop count after → decided_from file macros 0 tokens ≡ new ++ decided_from file macros 0 left
decided_on file macros tokens all new rest after left token count it h r c w i n l =
    let count_is : decided_from file macros (taken token after) after ≡ decided_from file macros 0 left =
    ap (λ (k : ℕ). decided_from file macros k after) (sym c) ∙ passed file macros count after w ∙ ap (decided_from file macros 0) (sym l) in
    h ∙ ap (λ (ts : List Token). all ++ decided_from file macros 0 ts) r
    ∙ ap (λ (more : List PpToken). all ++ replaced file macros token after ∷ more) count_is
    ∙ ap (λ (x : PpToken). all ++ x ∷ decided_from file macros 0 left) (sym i)
    ∙ sym (append_assoc all (it ∷ []) (decided_from file macros 0 left))
    ∙ ap (λ (xs : List PpToken). xs ++ decided_from file macros 0 left) (sym n)

pub decided_all : (file : ℕ) (macros : List ℕ → Option Macro) (tokens : List Token) (all : List PpToken) (rest : List Token) → decided_from file macros 0 tokens ≡ all ++ decided_from file macros 0 rest → length rest ≡ 0 → all ≡ decided file macros tokens
decided_all file macros tokens all [] h e = sym (decided_is file macros tokens ∙ h ∙ append-nil all)
decided_all file macros tokens all (t ∷ ts) h e = absurd (omega arith)

pub asked_on : (tokens : List Token) (all new : List (List ℕ)) (rest after left : List Token) (token : Token) (count : ℕ)
    → asked_from 0 tokens ≡ all ++ asked_from 0 rest → rest ≡ token ∷ after → count ≡ taken token after → count ≤ length after
    → new ≡ all ++ asked_for token after → left ≡ drop count after → asked_from 0 tokens ≡ new ++ asked_from 0 left
asked_on tokens all new rest after left token count h r c w n l =
    let count_is : asked_from (taken token after) after ≡ asked_from 0 left =
    ap (λ (k : ℕ). asked_from k after) (sym c) ∙ passed_names count after w ∙ ap (asked_from 0) (sym l) in
    h ∙ ap (λ (ts : List Token). all ++ asked_from 0 ts) r
    ∙ ap (λ (more : List (List ℕ)). all ++ (asked_for token after ++ more)) count_is
    ∙ sym (append_assoc all (asked_for token after) (asked_from 0 left))
    ∙ ap (λ (xs : List (List ℕ)). xs ++ asked_from 0 left) (sym n)

pub asked_all : (tokens : List Token) (all : List (List ℕ)) (rest : List Token) → asked_from 0 tokens ≡ all ++ asked_from 0 rest → length rest ≡ 0 → all ≡ asked tokens
asked_all tokens all [] h e = sym (asked_is tokens ∙ h ∙ append-nil all)
asked_all tokens all (t ∷ ts) h e = absurd (omega arith)

pub fewer : (rest after left : List Token) (token : Token) (count : ℕ) → rest ≡ token ∷ after → length left + count ≡ length after → length left < length rest
fewer rest after left token count r l =
    let e : length rest ≡ suc (length after) = ap length r in
    omega arith

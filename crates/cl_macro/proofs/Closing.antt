-- The `)` that has no `(` among the tokens before it.
use Rattle.std.proofs.Common.{◌≡◌, ℕ, zero, suc, ◌+◌, ◌-◌, ◌≤◌, ◌<◌, Bool, true, false, ◌&&◌, List, [], ◌∷◌, ◌++◌, length, drop, take, Option, Some, None, refl, sym, ap, ◌∙◌, arith}
use Rattle.std.specs.Prelude.{◌==◌, if◌then◌else◌}
use Rattle.std.specs.Option.{option_map}
use Rattle.std.proofs.lemmas.Bool.Decides.{nat_tests}
use Rattle.cl_macro.specs.declared.word.Word.{Word}
use Rattle.cl_macro.specs.Turns.{close_at, ends, depth_after, is_close, is_open}

true_not_false : true ≡ false → ⊥
true_not_false e = cc

-- ---- how far it is

if_within : (b : Bool) (o : Option ℕ) (len n : ℕ) → ((m : ℕ) → o ≡ Some m → m < len) → (if b then Some 0 else option_map (λ k. k + 1) o) ≡ Some n → n < suc len
if_within true o len n h e = let z : 0 ≡ n = cc in omega arith
if_within false None len n h e = cc
if_within false (Some m) len n h e = let z : m + 1 ≡ n = cc in let k : m < len = h m refl in omega arith

pub close_within : (d : ℕ) (ws : List Word) (n : ℕ) → close_at d ws ≡ Some n → n < length ws
close_within d [] n e = cc
close_within d (w ∷ ws) n e = if_within (ends w d) (close_at (depth_after w d) ws) (length ws) n (λ m. close_within (depth_after w d) ws m) e

pub closed_within : (ws : List Word) (n : ℕ) → Some n ≡ close_at 0 (drop 1 ws) → n + 2 ≤ length ws
closed_within [] n e = cc
closed_within (w ∷ ws) n e = let h : n < length ws = close_within 0 ws n (sym e) in omega arith

-- ---- what stands behind it doesn't matter

if_same : (b : Bool) (o p : Option ℕ) (n : ℕ) → ((m : ℕ) → o ≡ Some m → m + 1 ≡ n → p ≡ Some m)
    → (if b then Some 0 else option_map (λ k. k + 1) o) ≡ Some n → (if b then Some 0 else option_map (λ k. k + 1) p) ≡ Some n
if_same true o p n h e = e
if_same false None p n h e = cc
if_same false (Some m) p n h e = ap (option_map (λ k. k + 1)) (h m refl (let z : m + 1 ≡ n = cc in z)) ∙ e

pub close_more : (d : ℕ) (ws xs : List Word) (n : ℕ) → close_at d ws ≡ Some n → close_at d (ws ++ xs) ≡ Some n
close_more d [] xs n e = cc
close_more d (w ∷ ws) xs n e = if_same (ends w d) (close_at (depth_after w d) ws) (close_at (depth_after w d) (ws ++ xs)) n (λ m f g. close_more (depth_after w d) ws xs m f) e

pub close_front : (d r : ℕ) (ws : List Word) (n : ℕ) → close_at d ws ≡ Some n → n < r → close_at d (take r ws) ≡ Some n
close_front d r [] n e h = cc
close_front d zero (w ∷ ws) n e h = absurd (omega arith)
close_front d (suc r) (w ∷ ws) n e h = if_same (ends w d) (close_at (depth_after w d) ws) (close_at (depth_after w d) (take r ws)) n (λ m f g. close_front (depth_after w d) r ws m f (omega arith)) e

if_none : (b : Bool) (o p : Option ℕ) → (o ≡ None → p ≡ None) → (if b then Some 0 else option_map (λ k. k + 1) o) ≡ None → (if b then Some 0 else option_map (λ k. k + 1) p) ≡ None
if_none true o p h e = cc
if_none false None p h e = ap (option_map (λ k. k + 1)) (h refl)
if_none false (Some m) p h e = cc

pub close_front_none : (d r : ℕ) (ws : List Word) → close_at d ws ≡ None → close_at d (take r ws) ≡ None
close_front_none d zero ws e = refl
close_front_none d (suc r) [] e = refl
close_front_none d (suc r) (w ∷ ws) e = if_none (ends w d) (close_at (depth_after w d) ws) (close_at (depth_after w d) (take r ws)) (λ f. close_front_none (depth_after w d) r ws f) e

if_cut : (b : Bool) (o p : Option ℕ) (r n : ℕ) → ((m : ℕ) → o ≡ Some m → r ≤ m → p ≡ None) → suc r ≤ n
    → (if b then Some 0 else option_map (λ k. k + 1) o) ≡ Some n → (if b then Some 0 else option_map (λ k. k + 1) p) ≡ None
if_cut true o p r n h l e = let z : 0 ≡ n = cc in absurd (omega arith)
if_cut false None p r n h l e = cc
if_cut false (Some m) p r n h l e = let z : m + 1 ≡ n = cc in ap (option_map (λ k. k + 1)) (h m refl (omega arith))

pub close_cut : (d r : ℕ) (ws : List Word) (n : ℕ) → close_at d ws ≡ Some n → r ≤ n → close_at d (take r ws) ≡ None
close_cut d zero ws n e h = refl
close_cut d (suc r) [] n e h = cc
close_cut d (suc r) (w ∷ ws) n e h = if_cut (ends w d) (close_at (depth_after w d) ws) (close_at (depth_after w d) (take r ws)) r n (λ m f l. close_cut (depth_after w d) r ws m f l) h e

-- ---- one `(` more

pub close_here : (w : Word) (ws : List Word) (d : ℕ) → ends w d ≡ true → close_at d (w ∷ ws) ≡ Some 0
close_here w ws d e = rw e refl

pub close_on : (w : Word) (ws : List Word) (d : ℕ) → ends w d ≡ false → close_at d (w ∷ ws) ≡ option_map (λ n. n + 1) (close_at (depth_after w d) ws)
close_on w ws d e = rw e refl

-- no number but 0 is 0
pub not_none : (d : ℕ) → (suc d == 0) ≡ false
not_none d = grind (arith, nat_tests)

never : (d : ℕ) (c : Bool) → (suc d == 0 && c) ≡ true → ⊥
never d c e = true_not_false (sym e ∙ ap (λ b. b && c) (not_none d))

ends_parts : (d : ℕ) (c : Bool) → (d == 0 && c) ≡ true → (d ≡ 0) × (c ≡ true)
ends_parts zero c e = (refl, e)
ends_parts (suc d) c e = absurd (never d c e)

deeper_by : (c o : Bool) (d : ℕ) → (d == 0 && c) ≡ false → (if c then suc d - 1 else if o then suc d + 1 else suc d) ≡ suc (if c then d - 1 else if o then d + 1 else d)
deeper_by true o zero e = absurd (true_not_false e)
deeper_by true o (suc d) e = omega arith
deeper_by false true d e = omega arith
deeper_by false false d e = refl

pub after_deeper : (w : Word) (d : ℕ) → ends w d ≡ false → depth_after w (suc d) ≡ suc (depth_after w d)
after_deeper w d e = deeper_by (is_close w) (is_open w) d e

after_close : (w : Word) (d : ℕ) → is_close w ≡ true → depth_after w d ≡ d - 1
after_close w d e = rw e refl

pub after_end : (w : Word) (d : ℕ) → ends w d ≡ true → depth_after w (suc d) ≡ 0
after_end w d e = let p = ends_parts d (is_close w) e in let z : d ≡ 0 = p.0 in after_close w (suc d) p.1 ∙ (let y : suc d - 1 ≡ 0 = omega arith in y)

-- within a `(` nothing ends
pub never_ends : (w : Word) (d : ℕ) → ends w (suc d) ≡ false
never_ends w d = ap (λ b. b && is_close w) (not_none d)

-- where the one that closes less stands is known, the one that closes more is looked for behind it
abbrev pub then_close : Option ℕ → List Word → Option ℕ
then_close None ws = None
then_close (Some k) ws = option_map (λ n. n + (k + 1)) (close_at 0 (drop (k + 1) ws))

plus_one : (o : Option ℕ) (i j : ℕ) → i + 1 ≡ j → option_map (λ n. n + 1) (option_map (λ n. n + i) o) ≡ option_map (λ n. n + j) o
plus_one None i j e = refl
plus_one (Some n) i j e = ap Some (omega arith)

then_on : (o : Option ℕ) (w : Word) (ws : List Word) → option_map (λ n. n + 1) (then_close o ws) ≡ then_close (option_map (λ n. n + 1) o) (w ∷ ws)
then_on None w ws = refl
then_on (Some k) w ws =
    let z : k + 1 + 1 ≡ suc (k + 1) = omega arith in
    plus_one (close_at 0 (drop (k + 1) ws)) (k + 1) (k + 1 + 1) refl
    ∙ sym (ap (λ m. option_map (λ n. n + (k + 1 + 1)) (close_at 0 (drop m (w ∷ ws)))) z)

close_one : (w : Word) (ws : List Word) (d : ℕ) (b : Bool) → ends w d ≡ b → ((e : ℕ) → close_at (suc e) ws ≡ then_close (close_at e ws) ws)
    → close_at (suc d) (w ∷ ws) ≡ then_close (close_at d (w ∷ ws)) (w ∷ ws)
close_one w ws d true e ih = close_on w ws (suc d) (never_ends w d) ∙ ap (λ k. option_map (λ n. n + 1) (close_at k ws)) (after_end w d e) ∙ sym (ap (λ o. then_close o (w ∷ ws)) (close_here w ws d e))
close_one w ws d false e ih = close_on w ws (suc d) (never_ends w d) ∙ ap (λ k. option_map (λ n. n + 1) (close_at k ws)) (after_deeper w d e) ∙ ap (option_map (λ n. n + 1)) (ih (depth_after w d))
    ∙ then_on (close_at (depth_after w d) ws) w ws ∙ sym (ap (λ o. then_close o (w ∷ ws)) (close_on w ws d e))

pub close_deeper : (d : ℕ) (ws : List Word) → close_at (suc d) ws ≡ then_close (close_at d ws) ws
close_deeper d [] = refl
close_deeper d (w ∷ ws) = close_one w ws d (ends w d) refl (λ e. close_deeper e ws)

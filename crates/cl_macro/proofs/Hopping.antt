-- Arguments, past a `(` with all up to its `)` at once.
use Rattle.std.proofs.Common.{◌≡◌, ℕ, suc, ◌+◌, ◌-◌, ◌≤◌, ◌<◌, Bool, true, false, ◌&&◌, nat_lt, List, [], ◌∷◌, ◌++◌, length, drop, take, Option, Some, None, refl, sym, ap, subst, ◌∙◌, arith, append_assoc}
use Rattle.std.specs.Option.{option_map}
use Rattle.cl_macro.specs.declared.word.Word.{Word}
use Rattle.cl_macro.specs.code.Segments.{Opens}
use Rattle.cl_macro.specs.Turns.{close_at, ends, parts, depth_after, parted, before_first, is_comma}
use Rattle.cl_macro.proofs.Closing.{after_deeper, after_end, close_front, not_none}
use Rattle.cl_base.specs.declared.token.PpToken.{PpToken}
use Rattle.std.specs.List.{slice_get}
use Rattle.cl_macro.specs.Expansions.{token_of}
use Rattle.cl_macro.specs.Words.{fresh}
use Rattle.cl_macro.proofs.Lists.{drop_here}
use Rattle.cl_macro.proofs.Scans.{Counts, parted_some, take_next}
use Rattle.cl_macro.proofs.Seeing.{some_word}
use Rattle.cl_macro.proofs.Windows.{drop_take}
use Rattle.std.proofs.lemmas.List.{drop-drop}

-- the argument that is begun goes on with the first of these
abbrev pub glued : List Word → List (List Word) → List (List Word)
glued arg [] = arg ∷ []
glued arg (p ∷ ps) = (arg ++ p) ∷ ps

pub glued_long : (arg : List Word) (ps : List (List Word)) → 1 ≤ length ps → length (glued arg ps) ≡ length ps
glued_long arg [] h = absurd (omega arith)
glued_long arg (p ∷ ps) h = refl

pub glued_glued : (xs ys : List Word) (ps : List (List Word)) → glued xs (glued ys ps) ≡ glued (xs ++ ys) ps
glued_glued xs ys [] = refl
glued_glued xs ys (p ∷ ps) = ap (λ a. a ∷ ps) (sym (append_assoc xs ys p))

before_glued : (w : Word) (ps : List (List Word)) → before_first w ps ≡ glued (w ∷ []) ps
before_glued w [] = refl
before_glued w (p ∷ ps) = refl

open_part : (w : Word) (d c : ℕ) → parts w (suc d) c ≡ false
open_part w d c = ap (λ b. b && (nat_lt 0 c && is_comma w)) (not_none d)

pub no_part : (w : Word) (ws : List Word) (d c : ℕ) → parts w d c ≡ false → parted d c (w ∷ ws) ≡ glued (w ∷ []) (parted (depth_after w d) c ws)
no_part w ws d c e = rw e (before_glued w (parted (depth_after w d) c ws))

some_back : (o : Option ℕ) (k : ℕ) → option_map (λ n. n + 1) o ≡ Some k → (m : ℕ) × (o ≡ Some m) × (m + 1 ≡ k)
some_back None k e = cc
some_back (Some m) k e = (m, refl, cc)

-- the tokens up to the `)` stand in one argument
passed_by : (w : Word) (ws : List Word) (d c k : ℕ) (b : Bool) → ends w d ≡ b → close_at d (w ∷ ws) ≡ Some k
    → ((e m : ℕ) → close_at e ws ≡ Some m → parted (suc e) c ws ≡ glued (take (m + 1) ws) (parted 0 c (drop (m + 1) ws)))
    → parted (suc d) c (w ∷ ws) ≡ glued (take (k + 1) (w ∷ ws)) (parted 0 c (drop (k + 1) (w ∷ ws)))
passed_by w ws d c k true e f ih =
    let z : 0 ≡ k = let g : Some 0 ≡ Some k = sym (rw e refl) ∙ f in cc in
    no_part w ws (suc d) c (open_part w d c) ∙ ap (λ n. glued (w ∷ []) (parted n c ws)) (after_end w d e)
    ∙ ap (λ n. glued (take (n + 1) (w ∷ ws)) (parted 0 c (drop (n + 1) (w ∷ ws)))) z
passed_by w ws d c k false e f ih =
    let s = some_back (close_at (depth_after w d) ws) k (sym (rw e refl) ∙ f) in
    let m : ℕ = s.0 in
    let y : suc (m + 1) ≡ k + 1 = (let z : m + 1 ≡ k = s.2 in omega arith) in
    no_part w ws (suc d) c (open_part w d c) ∙ ap (λ n. glued (w ∷ []) (parted n c ws)) (after_deeper w d e)
    ∙ ap (glued (w ∷ [])) (ih (depth_after w d) m s.1) ∙ glued_glued (w ∷ []) (take (m + 1) ws) (parted 0 c (drop (m + 1) ws))
    ∙ ap (λ n. glued (take n (w ∷ ws)) (parted 0 c (drop n (w ∷ ws)))) y

pub passed : (d c k : ℕ) (ws : List Word) → close_at d ws ≡ Some k → parted (suc d) c ws ≡ glued (take (k + 1) ws) (parted 0 c (drop (k + 1) ws))
passed d c k [] f = cc
passed d c k (w ∷ ws) f = passed_by w ws d c k (ends w d) refl f (λ e m. passed e c m ws)

-- from a `(` outside others up to behind its `)`
pub hopped : (w : Word) (ws : List Word) (depth c k : ℕ) → Opens w depth → parts w depth c ≡ false → close_at 0 ws ≡ Some k
    → parted depth c (w ∷ ws) ≡ glued (w ∷ take (k + 1) ws) (parted depth c (drop (k + 1) ws))
hopped w ws depth c k o e f =
    let z : depth_after w depth ≡ 1 = ap (depth_after w) o.outer ∙ o.deeper in
    no_part w ws depth c e ∙ ap (λ n. glued (w ∷ []) (parted n c ws)) z ∙ ap (glued (w ∷ [])) (passed 0 c k ws f)
    ∙ glued_glued (w ∷ []) (take (k + 1) ws) (parted 0 c (drop (k + 1) ws))
    ∙ ap (λ n. glued (w ∷ take (k + 1) ws) (parted n c (drop (k + 1) ws))) (sym o.outer)

-- ---- counting

pub drop_there : (ws : List Word) (i n : ℕ) → drop (n + 1) (drop (i + 1) ws) ≡ drop (i + (n + 2)) ws
drop_there ws i n = drop-drop (n + 1) (i + 1) ws ∙ ap (λ k. drop k ws) (let z : i + 1 + (n + 1) ≡ i + (n + 2) = omega arith in z)

take_there : (ws : List Word) (i n count : ℕ) → drop (n + 1) (take (count - i) (drop (i + 1) ws)) ≡ take (count + 1 - (i + (n + 2))) (drop (i + (n + 2)) ws)
take_there ws i n count = drop_take (n + 1) (count - i) (drop (i + 1) ws) ∙ (λ k. take ((let z : count - i - (n + 1) ≡ count + 1 - (i + (n + 2)) = omega arith in z) k) (drop_there ws i n k))

hopped_long : (w : Word) (ws : List Word) (depth c k : ℕ) → Opens w depth → parts w depth c ≡ false → close_at 0 ws ≡ Some k
    → length (parted depth c (w ∷ ws)) ≡ length (parted depth c (drop (k + 1) ws))
hopped_long w ws depth c k o e f = ap length (hopped w ws depth c k o e f) ∙ glued_long (w ∷ take (k + 1) ws) (parted depth c (drop (k + 1) ws)) (parted_some depth c (drop (k + 1) ws))

counts_hop : (all : List Word) (count most i depth commas args n : ℕ) (w : Word) → slice_get all i ≡ Some w → parts w depth commas ≡ false → i ≤ count
    → Opens w depth → Some n ≡ close_at 0 (drop (i + 1) all) → n < count - i
    → Counts all count most i depth commas args → Counts all count most (i + (n + 2)) depth commas args
counts_hop all count most i depth commas args n w g e h o f l s = record {
  from = let d = s.from in omega arith;
  to = omega arith;
  deep = let d = s.deep in omega arith;
  few = let d = s.few in omega arith;
  counts = s.counts ∙ ap (λ ws. args + length (parted depth commas (take (count + 1 - i) ws))) (drop_here all i w g)
      ∙ ap (λ ws. args + length (parted depth commas ws)) (take_next (count + 1 - i) (count - i) w (drop (i + 1) all) (omega arith))
      ∙ ap (λ m. args + m) (hopped_long w (take (count - i) (drop (i + 1) all)) depth commas n o e (close_front 0 (count - i) (drop (i + 1) all) n (sym f) l))
      ∙ ap (λ ws. args + length (parted depth commas ws)) (take_there all i n count);
}

pub counts_hopped : (all : List Word) (count most i depth commas args n : ℕ) (t : PpToken) → Some t ≡ option_map token_of (slice_get all i) → parts (fresh t) depth commas ≡ false → i ≤ count
    → Opens (fresh t) depth → Some n ≡ close_at 0 (drop (i + 1) all) → n < count - i
    → Counts all count most i depth commas args → Counts all count most (i + (n + 2)) depth commas args
counts_hopped all count most i depth commas args n t g e h o f l s = let p = some_word (slice_get all i) t g in
    subst (λ (u : PpToken). parts (fresh u) depth commas ≡ false → Opens (fresh u) depth → Counts all count most (i + (n + 2)) depth commas args) p.2
    (λ e o. counts_hop all count most i depth commas args n p.0 p.1 e h (record { outer = o.outer; deeper = o.deeper }) f l s) e o

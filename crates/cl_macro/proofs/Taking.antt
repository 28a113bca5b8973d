-- The arguments as they are taken.
use Rattle.std.proofs.Common.{◌≡◌, ℕ, suc, ◌+◌, ◌-◌, ◌≤◌, ◌<◌, Bool, true, false, List, [], ◌∷◌, ◌++◌, length, drop, take, map, Some, None, refl, sym, ap, ◌∙◌, arith, append_assoc, length-drop}
use Rattle.std.specs.Prelude.{if◌then◌else◌, slice_range}
use Rattle.std.specs.List.{slice_get}
use Rattle.std.proofs.lemmas.Option.{slice_get_within}
use Rattle.std.proofs.lemmas.Grind.{common_steps}
use Rattle.cl_base.specs.declared.macros.Macro.{Macro}
use Rattle.cl_macro.specs.declared.word.Word.{Word}
use Rattle.cl_macro.specs.code.Segments.{Opens}
use Rattle.cl_macro.specs.Words.{taken}
use Rattle.cl_macro.specs.Turns.{close_at, parts, parted, depth_after, args_of, args_by, arguments}
use Rattle.cl_macro.proofs.Closing.{close_within}
use Rattle.cl_macro.proofs.Hopping.{drop_there, glued, glued_glued, hopped, no_part}
use Rattle.cl_macro.proofs.Lists.{drop_here, drop_past}
use Rattle.cl_macro.proofs.Scans.{parted_some}
use Rattle.cl_macro.proofs.Walking.{append_nil}
use Rattle.cl_macro.proofs.Windows.{get_least, range_by, range_none}

-- the arguments before the place `i` are parted, and the one that is begun there begins at `from`
pub record Parting (ws : List Word) (most i from depth commas : ℕ) (args : List (List Word)) : Type 0 where
  pub order : from ≤ i
  pub within : i ≤ length ws
  pub deep : depth ≤ i
  pub parting : parted 0 most ws ≡ args ++ glued (slice_range ws from i) (parted depth commas (drop i ws))

glued_nil : (ps : List (List Word)) → 1 ≤ length ps → ps ≡ glued [] ps
glued_nil [] h = absurd (omega arith)
glued_nil (p ∷ ps) h = refl

pub parting_none : (ws : List Word) (most : ℕ) → Parting ws most 0 0 0 most []
parting_none ws most = record { order = omega arith; within = omega arith; deep = omega arith; parting = glued_nil (parted 0 most ws) (parted_some 0 most ws) }

part_yes : (w : Word) (ws : List Word) (depth commas : ℕ) → parts w depth commas ≡ true → parted depth commas (w ∷ ws) ≡ [] ∷ parted depth (commas - 1) ws
part_yes w ws depth commas e = rw e refl

at_word : (ws : List Word) (most i from depth commas : ℕ) (args : List (List Word)) (w : Word) → slice_get ws i ≡ Some w → Parting ws most i from depth commas args
    → parted 0 most ws ≡ args ++ glued (slice_range ws from i) (parted depth commas (w ∷ drop (i + 1) ws))
at_word ws most i from depth commas args w g p = p.parting ∙ ap (λ xs. args ++ glued (slice_range ws from i) (parted depth commas xs)) (drop_here ws i w g)

pub parting_part : (ws : List Word) (most i from depth commas : ℕ) (args : List (List Word)) (w : Word) → slice_get ws i ≡ Some w → parts w depth commas ≡ true
    → Parting ws most i from depth commas args → Parting ws most (i + 1) (i + 1) depth (commas - 1) (args ++ slice_range ws from i ∷ [])
parting_part ws most i from depth commas args w g e p =
    let h : i < length ws = slice_get_within ws i w g in
    let d : depth ≤ i = p.deep in
    let rest : List (List Word) = parted depth (commas - 1) (drop (i + 1) ws) in record {
      order = omega arith;
      within = omega arith;
      deep = omega arith;
      parting = at_word ws most i from depth commas args w g p ∙ ap (λ ps. args ++ glued (slice_range ws from i) ps) (part_yes w (drop (i + 1) ws) depth commas e)
          ∙ ap (λ a. args ++ a ∷ rest) (append_nil (slice_range ws from i)) ∙ sym (append_assoc args (slice_range ws from i ∷ []) rest)
          ∙ ap (λ ps. (args ++ slice_range ws from i ∷ []) ++ ps) (glued_nil rest (parted_some depth (commas - 1) (drop (i + 1) ws)))
          ∙ sym (ap (λ a. (args ++ slice_range ws from i ∷ []) ++ glued a rest) (range_none ws (i + 1)));
    }

one_here : (ws : List Word) (i : ℕ) (w : Word) → slice_get ws i ≡ Some w → take 1 (drop i ws) ≡ w ∷ []
one_here ws i w g = ap (take 1) (drop_here ws i w g)

pub parting_on : (ws : List Word) (most i from depth commas : ℕ) (args : List (List Word)) (w : Word) → slice_get ws i ≡ Some w → parts w depth commas ≡ false
    → depth_after w depth ≤ depth + 1 → Parting ws most i from depth commas args → Parting ws most (i + 1) from (depth_after w depth) commas args
parting_on ws most i from depth commas args w g e k p =
    let h : i < length ws = slice_get_within ws i w g in
    let d : depth ≤ i = p.deep in
    let o : from ≤ i = p.order in record {
      order = omega arith;
      within = omega arith;
      deep = omega arith;
      parting = at_word ws most i from depth commas args w g p ∙ ap (λ ps. args ++ glued (slice_range ws from i) ps) (no_part w (drop (i + 1) ws) depth commas e)
          ∙ ap (λ ps. args ++ ps) (glued_glued (slice_range ws from i) (w ∷ []) (parted (depth_after w depth) commas (drop (i + 1) ws)))
          ∙ ap (λ a. args ++ glued a (parted (depth_after w depth) commas (drop (i + 1) ws))) (ap (λ a. slice_range ws from i ++ a) (sym (one_here ws i w g)) ∙ range_by ws from i 1 o);
    }

take_here : (ws : List Word) (i n : ℕ) (w : Word) → slice_get ws i ≡ Some w → w ∷ take (n + 1) (drop (i + 1) ws) ≡ take (n + 2) (drop i ws)
take_here ws i n w g = sym (ap (take (n + 2)) (drop_here ws i w g) ∙ ap (λ k. take k (w ∷ drop (i + 1) ws)) (let z : n + 2 ≡ suc (n + 1) = omega arith in z))

pub parting_hop : (ws : List Word) (most i from depth commas n : ℕ) (args : List (List Word)) (w : Word) → slice_get ws i ≡ Some w → parts w depth commas ≡ false
    → Opens w depth → Some n ≡ close_at 0 (drop (i + 1) ws) → Parting ws most i from depth commas args → Parting ws most (i + (n + 2)) from depth commas args
parting_hop ws most i from depth commas n args w g e o f p =
    let h : n < length (drop (i + 1) ws) = close_within 0 (drop (i + 1) ws) n (sym f) in
    let l : length (drop (i + 1) ws) ≡ length ws - (i + 1) = length-drop (i + 1) ws in
    let d : depth ≤ i = p.deep in
    let b : from ≤ i = p.order in record {
      order = omega arith;
      within = omega arith;
      deep = omega arith;
      parting = at_word ws most i from depth commas args w g p ∙ ap (λ ps. args ++ glued (slice_range ws from i) ps) (hopped w (drop (i + 1) ws) depth commas n o e (sym f))
          ∙ ap (λ ps. args ++ ps) (glued_glued (slice_range ws from i) (w ∷ take (n + 1) (drop (i + 1) ws)) (parted depth commas (drop (n + 1) (drop (i + 1) ws))))
          ∙ ap (λ a. args ++ glued a (parted depth commas (drop (n + 1) (drop (i + 1) ws)))) (ap (λ a. slice_range ws from i ++ a) (take_here ws i n w g) ∙ range_by ws from i (n + 2) b)
          ∙ ap (λ xs. args ++ glued (slice_range ws from (i + (n + 2))) (parted depth commas xs)) (drop_there ws i n);
    }

pub parting_done : (ws : List Word) (most i from depth commas count : ℕ) (args : List (List Word)) → slice_get ws i ≡ None → count ≡ length ws
    → Parting ws most i from depth commas args → args ++ slice_range ws from count ∷ [] ≡ parted 0 most ws
parting_done ws most i from depth commas count args g c p =
    let a : length ws ≤ i = get_least ws i g in
    let b : i ≤ length ws = p.within in
    sym (p.parting ∙ ap (λ xs. args ++ glued (slice_range ws from i) (parted depth commas xs)) (drop_past ws i g) ∙ ap (λ x. args ++ x ∷ []) (append_nil (slice_range ws from i))
    ∙ ap (λ n. args ++ slice_range ws from n ∷ []) (let z : i ≡ count = omega arith in z))

take_inner : (n : ℕ) (ws : List Word) → take n (drop 1 (take (n + 2) ws)) ≡ take n (drop 1 ws)
take_inner n ws = grind (arith, common_steps)

inner_count : (n : ℕ) (ws : List Word) → n + 2 ≤ length ws → length (map taken (take n (drop 1 ws))) ≡ n
inner_count n ws h = grind (arith, common_steps)

whole_count : (n : ℕ) (ws : List Word) → n + 2 ≤ length ws → length (take (n + 2) ws) - 2 ≡ n
whole_count n ws h = let e : length (take (n + 2) ws) ≡ n + 2 = grind (arith, common_steps) in omega arith

-- the arguments among the tokens that an invocation takes
pub args_taken : (variadic : Bool) (params n : ℕ) (ws : List Word) → n + 2 ≤ length ws
    → parted 0 (if variadic then params else n) (map taken (take n (drop 1 ws)))
    ≡ arguments variadic params (map taken (take (length (take (n + 2) ws) - 2) (drop 1 (take (n + 2) ws))))
args_taken variadic params n ws h = rw (whole_count n ws h, take_inner n ws, inner_count n ws h) refl

pub args_some : (m : Macro) (ps : List (List ℕ)) (n count : ℕ) (ws : List Word) → m.params ≡ Some ps → n + 2 ≡ count → count ≤ length ws
    → parted 0 (if m.variadic then length ps else n) (map taken (take n (drop 1 ws))) ≡ args_of m (take count ws)
args_some m ps n count ws e f h = args_taken m.variadic (length ps) n ws (omega arith)
    ∙ ap (λ k. arguments m.variadic (length ps) (map taken (take (length (take k ws) - 2) (drop 1 (take k ws))))) f
    ∙ ap (λ o. args_by m o (take count ws)) (sym e)

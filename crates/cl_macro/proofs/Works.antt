-- Tokens in work: those that replacements made, before those of an argument.
use Rattle.std.proofs.Common.{◌≡◌, ℕ, zero, suc, ◌+◌, ◌-◌, ◌≤◌, ◌<◌, List, [], ◌∷◌, ◌++◌, length, drop, take, map, reverse, Option, Some, None, IsSome, ◌↔◌, true, false, refl, sym, ap, ◌∙◌, arith, length-append}
use Rattle.std.specs.List.{slice_get}
use Rattle.std.specs.Prelude.{slice_range}
use Rattle.std.proofs.lemmas.List.{reverse-append, reverse-reverse, length-reverse, take-append-le, take-map}
use Rattle.cl_macro.specs.declared.word.Word.{Word}
use Rattle.cl_macro.specs.declared.level.Level.{Level}
use Rattle.cl_macro.specs.Levels.{Passes, ahead, rest_of}
use Rattle.cl_macro.specs.code.Segments.{Takes}
use Rattle.cl_macro.specs.Turns.{close_at}
use Rattle.cl_macro.specs.Words.{taken}
use Rattle.cl_macro.proofs.Closing.{close_more}
use Rattle.cl_macro.proofs.Lists.{get_left, get_right, get_reverse}
use Rattle.cl_macro.proofs.Passing.{drop_both, next_one, passes_on, take_on}

pub in_order : (made kept : List Word) → reverse (reverse kept ++ made) ≡ reverse made ++ kept
in_order made kept = reverse-append (reverse kept) made ∙ ap (λ ws. reverse made ++ ws) (reverse-reverse kept)

pub of_kept : (made kept : List Word) → made ≡ [] → reverse (reverse kept ++ made) ≡ kept
of_kept made kept e = in_order made kept ∙ ap (λ ws. reverse ws ++ kept) e

pub both_long : (made kept : List Word) → length (reverse kept ++ made) ≡ length made + length kept
both_long made kept = let a : length (reverse kept ++ made) ≡ length (reverse kept) + length made = length-append (reverse kept) made in
    let b : length (reverse kept) ≡ length kept = length-reverse kept in omega arith

pub see_made : (made kept : List Word) (i : ℕ) → i < length made → slice_get made (length made - 1 - i) ≡ slice_get (reverse (reverse kept ++ made)) i
see_made made kept i h = sym (ap (λ ws. slice_get ws i) (in_order made kept)
    ∙ get_left (reverse made) kept i (let z : length (reverse made) ≡ length made = length-reverse made in omega arith) ∙ get_reverse made i h)

pub see_kept : (made kept : List Word) (i : ℕ) → length made ≤ i → slice_get kept (i - length made) ≡ slice_get (reverse (reverse kept ++ made)) i
see_kept made kept i h = sym (ap (λ ws. slice_get ws i) (in_order made kept)
    ∙ get_right (reverse made) kept i (let z : length (reverse made) ≡ length made = length-reverse made in omega arith)
    ∙ ap (λ n. slice_get kept (i - n)) (length-reverse made))

pub pop_kept : (kept : List Word) (w : Word) → slice_get kept 0 ≡ Some w → reverse kept ≡ reverse (drop 1 kept) ++ w ∷ []
pop_kept [] w e = cc
pop_kept (x ∷ kept) w e = let z : x ≡ w = cc in reverse-append (x ∷ []) kept ∙ ap (λ y. reverse kept ++ y ∷ []) z

-- where none can be taken, none is there
pub none_left : (ws : List Word) (o : Option Word) → o ≡ None → (IsSome o ↔ (0 < length ws)) → ws ≡ []
none_left [] o e i = refl
none_left (w ∷ ws) None e i = let h : false ≡ true = i.1 (omega arith) in cc
none_left (w ∷ ws) (Some x) e i = cc

drop_on : (xs ys : List Word) (i k : ℕ) → length xs ≤ i → drop (i + k) (xs ++ ys) ≡ drop (i - length xs + k) ys
drop_on [] ys i k h = ap (λ n. drop n ys) (let z : i + k ≡ i - 0 + k = omega arith in z)
drop_on (x ∷ xs) ys zero k h = absurd (omega arith)
drop_on (x ∷ xs) ys (suc i) k h = ap (λ n. drop n (x ∷ (xs ++ ys))) (let z : suc i + k ≡ suc (i + k) = omega arith in z) ∙ drop_on xs ys i k (omega arith)
    ∙ ap (λ n. drop n ys) (let z : i - length xs + k ≡ suc i - suc (length xs) + k = omega arith in z)

pub group_kept : (made kept : List Word) (i : ℕ) → length made ≤ i → close_at 0 (drop (i - length made + 1) kept) ≡ close_at 0 (drop (i + 1) (reverse (reverse kept ++ made)))
group_kept made kept i h = sym (ap (λ ws. close_at 0 (drop (i + 1) ws)) (in_order made kept)
    ∙ ap (close_at 0) (drop_on (reverse made) kept i 1 (let z : length (reverse made) ≡ length made = length-reverse made in omega arith))
    ∙ ap (λ n. close_at 0 (drop (i - n + 1) kept)) (length-reverse made))

pub group_ahead : (work rest : List Word) (i n : ℕ) → Some n ≡ close_at 0 (drop (i + 1) work) → Some n ≡ close_at 0 (drop (i + 1) (work ++ rest))
group_ahead work rest i n e = sym (ap (close_at 0) (drop_both (i + 1) work rest) ∙ close_more 0 (drop (i + 1) work) (drop (i + 1 - length work) rest) n (sym e))

-- ---- tokens that are taken as a row

pub window_passes : (count : ℕ) (old new : Level) (words : List Word) → Takes count old.work new.work words → rest_of new ≡ rest_of old → Passes count old new
window_passes count old new words t r = record {
  work = t.left;
  rest = r ∙ ap (λ n. drop n (rest_of old)) (let h : count ≤ length old.work = t.within in let z : 0 ≡ count - length old.work = omega arith in z);
}

pub window_words : (count : ℕ) (old new : Level) (words : List Word) → Takes count old.work new.work words → words ≡ map taken (take count (ahead old))
window_words count old new words t =
    let h : count ≤ length old.work = t.within in
    let z : length (reverse old.work) ≡ length old.work = length-reverse old.work in
    t.taken ∙ ap (map taken) (sym (take-append-le count (reverse old.work) (rest_of old) (omega arith)))

-- a level whose tokens in work stay
pub same_level : (count : ℕ) (old middle new : Level) → middle.work ≡ old.work → rest_of middle ≡ rest_of old → Passes count middle new → Passes count old new
same_level count old middle new e r p = record {
  work = p.work ∙ ap (λ ws. drop count (reverse ws)) e;
  rest = p.rest ∙ ap (λ n. drop (count - n) (rest_of middle)) (ap length e) ∙ ap (drop (count - length old.work)) r;
}

pub same_ahead : (old middle : Level) → middle.work ≡ old.work → rest_of middle ≡ rest_of old → ahead middle ≡ ahead old
same_ahead old middle e r = ap (λ ws. reverse ws ++ rest_of middle) e ∙ ap (λ ws. reverse old.work ++ ws) r

-- the tokens of an argument that a window takes
pub window_takes : (count : ℕ) (kept new words : List Word) → count ≤ length kept → map taken kept ≡ kept → words ≡ slice_range kept 0 count → new ≡ drop count kept
    → Takes count (reverse kept ++ []) (reverse new ++ []) words
window_takes count kept new words h t w n = record {
  within = let e : length (reverse kept ++ []) ≡ 0 + length kept = both_long [] kept in omega arith;
  taken = w ∙ ap (λ k. take k kept) (let z : count - 0 ≡ count = omega arith in z) ∙ ap (take count) (sym t) ∙ take-map taken count kept
      ∙ ap (λ ws. map taken (take count ws)) (sym (of_kept [] kept refl));
  left = of_kept [] new refl ∙ n ∙ ap (drop count) (sym (of_kept [] kept refl));
}

-- ---- tokens that are gathered

pub record Gathered (first : Level) (i : ℕ) (level : Level) (words : List Word) : Type 0 where
  pub passes : Passes i first level
  pub out : level.out ≡ first.out
  pub words_are : words ≡ take i (ahead first)

pub gathered_on : (first : Level) (i : ℕ) (level new : Level) (words more : List Word) (w : Word) → Gathered first i level words → slice_get (ahead level) 0 ≡ Some w → Passes 1 level new → new.out ≡ level.out
    → more ≡ words ++ w ∷ [] → Gathered first (i + 1) new more
gathered_on first i level new words more w g e p o m = record {
  passes = passes_on i first level new g.passes p;
  out = o ∙ g.out;
  words_are = m ∙ ap (λ ws. ws ++ w ∷ []) g.words_are ∙ sym (take_on (ahead first) i w (next_one i first level w g.passes e));
}

-- Tokens that many invocations share.
use Rattle.std.proofs.Common.{◌≡◌, ℕ, zero, suc, ◌+◌, ◌-◌, ◌≤◌, ◌<◌, ◌^◌, List, [], ◌∷◌, ◌++◌, length, drop, map, reverse, Option, Some, None, true, nat_lt, get_or, IfSome, refl, sym, ap, subst, ◌∙◌, arith, length-drop}
use Rattle.std.specs.List.{slice_get}
use Rattle.std.specs.Option.{option_map}
use Rattle.std.proofs.lemmas.List.{length-map, length-reverse, reverse-append, map-append, append_assoc}
use Rattle.std.proofs.lemmas.Bool.{ltb-true}
use Rattle.cl_macro.specs.declared.segment.Slot.{Slot}
use Rattle.cl_macro.specs.declared.word.Word.{Word}
use Rattle.cl_macro.specs.Turns.{close_at}
use Rattle.cl_macro.specs.Words.{fresh, taken}
use Rattle.cl_macro.specs.code.Segments.{Linked, slot_word}
use Rattle.cl_macro.proofs.Closing.{close_within, close_deeper, then_close}
use Rattle.cl_macro.proofs.Lists.{drop_past, get_reverse}

-- ---- slots by place

linked_at : (xs : List Slot) (i : ℕ) (s : Slot) → Linked xs → slice_get xs i ≡ Some s → s.close ≡ close_at 0 (map slot_word (drop i xs))
linked_at [] i s l e = cc
linked_at (x ∷ xs) zero s l e = let z : x ≡ s = cc in subst (λ (y : Slot). y.close ≡ close_at 0 (map slot_word (x ∷ xs))) z l.0
linked_at (x ∷ xs) (suc i) s l e = linked_at xs i s l.1 e

linked_index : (xs : List Slot) (i : ℕ) (s d : Slot) → Linked xs → i < length xs → s ≡ get_or xs i d → s.close ≡ close_at 0 (map slot_word (drop i xs))
linked_index [] i s d l h e = absurd (omega arith)
linked_index (x ∷ xs) zero s d l h e = subst (λ (y : Slot). y.close ≡ close_at 0 (map slot_word (x ∷ xs))) (sym e) l.0
linked_index (x ∷ xs) (suc i) s d l h e = linked_index xs i s d l.1 (omega arith) e

map_drop : (i : ℕ) (xs : List Slot) → map slot_word (drop i xs) ≡ drop i (map slot_word xs)
map_drop zero xs = refl
map_drop (suc i) [] = refl
map_drop (suc i) (x ∷ xs) = map_drop i xs

get_map : (xs : List Slot) (i : ℕ) → option_map slot_word (slice_get xs i) ≡ slice_get (map slot_word xs) i
get_map [] i = refl
get_map (x ∷ xs) zero = refl
get_map (x ∷ xs) (suc i) = get_map xs i

get_past : (xs : List Slot) (i : ℕ) → length xs ≤ i → slice_get xs i ≡ None
get_past [] i h = refl
get_past (x ∷ xs) zero h = absurd (omega arith)
get_past (x ∷ xs) (suc i) h = get_past xs i (omega arith)

get_front : (xs ys : List Slot) (i : ℕ) (s : Slot) → slice_get xs i ≡ Some s → slice_get (xs ++ ys) i ≡ Some s
get_front [] ys i s e = cc
get_front (x ∷ xs) ys zero s e = e
get_front (x ∷ xs) ys (suc i) s e = get_front xs ys i s e

drop_nothing : (xs : List Slot) (i : ℕ) → length xs ≤ i → drop i xs ≡ []
drop_nothing xs i h = drop_past xs i (get_past xs i h)

-- ---- the slots as they are laid, the last token first

-- the one so many before the last is so many behind the first
mirrored : (xs : List Slot) (i : ℕ) (s : Slot) → i < length xs → slice_get xs (length xs - 1 - i) ≡ Some s → slice_get (reverse xs) i ≡ Some s
mirrored xs i s h e = get_reverse xs i h ∙ e

pub behind_is : (slots : List Slot) (i : ℕ) (s : Slot) → Linked (reverse slots) → i < length slots → slice_get slots (length slots - 1 - i) ≡ Some s
    → s.close ≡ close_at 0 (map slot_word (drop i (reverse slots)))
behind_is slots i s l h e = linked_at (reverse slots) i s l (mirrored slots i s h e)

pub behind_none : (slots : List Slot) (i : ℕ) → length slots ≤ i → None ≡ close_at 0 (map slot_word (drop i (reverse slots)))
behind_none slots i h = let z : drop i (reverse slots) ≡ [] = drop_nothing (reverse slots) i (let y : length (reverse slots) ≡ length slots = length-reverse slots in omega arith) in rw z refl

few : (xs : List Slot) (i n : ℕ) → length xs < 2 ^ 32 → close_at 0 (map slot_word (drop i xs)) ≡ Some n → n < 2 ^ 32
few xs i n h e = let a : n < length (map slot_word (drop i xs)) = close_within 0 _ n e in
    let b : length (map slot_word (drop i xs)) ≡ length xs - i = length-map (drop i xs) slot_word ∙ length-drop i xs in
    omega arith

pub behind_few : (slots : List Slot) (i n : ℕ) → length slots < 2 ^ 32 → close_at 0 (map slot_word (drop i (reverse slots))) ≡ Some n → n < 2 ^ 32
behind_few slots i n h e = few (reverse slots) i n (let y : length (reverse slots) ≡ length slots = length-reverse slots in omega arith) e

map_once : (o : Option ℕ) (i j : ℕ) → i + 1 ≡ j → option_map (λ n. n + 1) (option_map (λ n. n + i) o) ≡ option_map (λ n. n + j) o
map_once None i j e = refl
map_once (Some n) i j e = ap Some (omega arith)

-- what a `(` tells
pub over_none : (ws : List Word) → None ≡ close_at 0 ws → None ≡ option_map (λ n. n + 1) (close_at 1 ws)
over_none ws e = sym (ap (option_map (λ n. n + 1)) (close_deeper 0 ws ∙ ap (λ o. then_close o ws) (sym e)))

pub over_some : (ws : List Word) (inside : ℕ) (o : Option ℕ) → Some inside ≡ close_at 0 ws → o ≡ close_at 0 (drop (inside + 1) ws)
    → option_map (λ n. n + (inside + 2)) o ≡ option_map (λ n. n + 1) (close_at 1 ws)
over_some ws inside o e f =
    sym (ap (option_map (λ n. n + 1)) (close_deeper 0 ws ∙ ap (λ p. then_close p ws) (sym e)) ∙ map_once (close_at 0 (drop (inside + 1) ws)) (inside + 1) (inside + 2) (omega arith)
    ∙ ap (option_map (λ n. n + (inside + 2))) (sym f))

pub dropped : (i : ℕ) (xs : List Slot) → map slot_word (drop i xs) ≡ drop i (map slot_word xs)
dropped i xs = map_drop i xs

-- ---- the slots in order

pub all_taken : (xs : List Slot) → map taken (map slot_word xs) ≡ map slot_word xs
all_taken [] = refl
all_taken (x ∷ xs) = ap (λ ws. slot_word x ∷ ws) (all_taken xs)

pub as_many : (xs : List Slot) → length (map slot_word xs) ≡ length xs
as_many xs = length-map xs slot_word

pub word_at : (xs : List Slot) (i : ℕ) → option_map slot_word (slice_get xs i) ≡ slice_get (map slot_word xs) i
word_at xs i = get_map xs i

pub close_is : (xs : List Slot) (ws : List Word) (i : ℕ) (s d : Slot) → map slot_word xs ≡ ws → Linked xs → true ≡ nat_lt i (length xs) → s ≡ get_or xs i d → s.close ≡ close_at 0 (drop i ws)
close_is xs ws i s d e l h g = linked_index xs i s d l (ltb-true i (length xs) (sym h)) g ∙ ap (close_at 0) (map_drop i xs) ∙ ap (λ ys. close_at 0 (drop i ys)) e

pub close_none : (xs : List Slot) (i : ℕ) → slice_get xs i ≡ None → None ≡ close_at 0 (drop i (map slot_word xs))
close_none xs i e = sym (ap (close_at 0) (sym (map_drop i xs) ∙ ap (map slot_word) (drop_past xs i e)))

pub close_few : (xs : List Slot) (ws : List Word) (i : ℕ) (o : Option ℕ) → map slot_word xs ≡ ws → length xs < 2 ^ 32 → o ≡ close_at 0 (drop i ws) → IfSome o (λ n. n < 2 ^ 32)
close_few xs ws i None e h g = tt
close_few xs ws i (Some n) e h g = few xs i n h (ap (close_at 0) (map_drop i xs) ∙ ap (λ ys. close_at 0 (drop i ys)) e ∙ sym g)

-- ---- laying

pub linked_more : (slots : List Slot) (s : Slot) → Linked (reverse slots) → s.close ≡ close_at 0 (fresh s.token ∷ map slot_word (reverse slots)) → Linked (reverse (slots ++ s ∷ []))
linked_more slots s l e = subst Linked (sym (reverse-append slots (s ∷ []))) (e, l)

pub laid_more : (all words new : List Word) (w : Word) (slots more : List Slot) (s : Slot) → map taken all ≡ map taken words ++ map slot_word (reverse slots) → words ≡ new ++ w ∷ [] → more ≡ slots ++ s ∷ []
    → slot_word s ≡ taken w → map taken all ≡ map taken new ++ map slot_word (reverse more)
laid_more all words new w slots more s h e f g =
    let r : map slot_word (reverse more) ≡ slot_word s ∷ map slot_word (reverse slots) = ap (λ xs. map slot_word (reverse xs)) f ∙ ap (map slot_word) (reverse-append slots (s ∷ [])) in
    let m : map taken words ≡ map taken new ++ taken w ∷ [] = ap (map taken) e ∙ map-append taken new (w ∷ []) in
    h ∙ ap (λ xs. xs ++ map slot_word (reverse slots)) m ∙ append_assoc (map taken new) (taken w ∷ []) (map slot_word (reverse slots))
    ∙ ap (λ x. map taken new ++ x ∷ map slot_word (reverse slots)) (sym g) ∙ ap (λ xs. map taken new ++ xs) (sym r)

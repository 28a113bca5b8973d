-- Bytes that are known, read and written in pieces.
use Rattle.std.proofs.Common.{◌≡◌, ◌≤◌, length, ℕ, ◌+◌, List, [], ◌∷◌, ◌++◌, take, drop, Option, Some, None, refl, sym, ◌∙◌, ap, append_assoc, append-nil}
use borrow.Rule.Slice.PartMut.{put_mid, post_of}
use Rattle.std.proofs.lemmas.List.{take-append-drop, take-append-le, drop-drop, length-take-le}
use Rattle.std.proofs.Math.Seq.{take-add, take-append-add}
use Rattle.std.specs.Io.KnownBytes.{append_known, prepend_known}

-- two writes in a row
pub append_known_append : (a : Option (List ℕ)) (x y : List ℕ) → append_known (append_known a x) y ≡ append_known a (x ++ y)
append_known_append None x y = refl
append_known_append (Some a) x y = ap Some (append_assoc a x y)

pub append_known_nil : (a : Option (List ℕ)) → append_known a [] ≡ a
append_known_nil None = refl
append_known_nil (Some a) = ap Some (append-nil a)

-- two reads in a row
pub prepend_known_append : (a : Option (List ℕ)) (x y : List ℕ) → prepend_known x (prepend_known y a) ≡ prepend_known (x ++ y) a
prepend_known_append None x y = refl
prepend_known_append (Some a) x y = ap Some (sym (append_assoc x y a))

pub prepend_known_nil : (a : Option (List ℕ)) → prepend_known [] a ≡ a
prepend_known_nil None = refl
prepend_known_nil (Some a) = refl

-- a write of what was left of a piece goes on after the part that was written
pub writes_on : (a b c : Option (List ℕ)) (at n : ℕ) (piece left : List ℕ) → left ≡ drop at piece → b ≡ append_known a (take at piece) → c ≡ append_known b (take n left) → c ≡ append_known a (take (at + n) piece)
writes_on a b c at n piece left e p q =
    q ∙ ap (λ (w : Option (List ℕ)). append_known w (take n left)) p ∙ append_known_append a (take at piece) (take n left)
    ∙ ap (append_known a) (ap (λ (w : List ℕ). take at piece ++ take n w) e ∙ sym (take-add at n piece))

-- the first n of what is left, and the rest
pub split_left : (at n : ℕ) (bytes buf left : List ℕ) → left ≡ drop at bytes → take n buf ≡ take n left → Some (drop at bytes) ≡ Some (take n buf ++ drop (at + n) bytes)
split_left at n bytes buf left l e =
    ap Some (sym (take-append-drop n (drop at bytes)) ∙ ap (λ (w : List ℕ). w ++ drop n (drop at bytes)) (sym (e ∙ ap (take n) l)) ∙ ap (λ (w : List ℕ). take n buf ++ w) (drop-drop n at bytes))

-- one byte more of what is to be skipped
pub skipping : (a b c : Option (List ℕ)) (front : List ℕ) (i x : ℕ) → a ≡ prepend_known (take i front) b → b ≡ prepend_known (x ∷ []) c → a ≡ prepend_known (take i front ++ x ∷ []) c
skipping a b c front i x p q = p ∙ ap (prepend_known (take i front)) q ∙ prepend_known_append c (take i front) (x ∷ [])

-- a read into what is left of a body goes on after the part that was read
pub reads_into : (a b c : Option (List ℕ)) (at n k : ℕ) (body buf : List ℕ) → at ≤ length body → n ≤ length buf → a ≡ prepend_known (take at body) b → b ≡ prepend_known (take n buf) c
    → a ≡ prepend_known (take (at + n) (put_mid at k body buf)) c
reads_into a b c at n k body buf l m p q =
    let front : length (take at body) ≡ at = length-take-le at body l in
    let whole : take (at + n) (put_mid at k body buf) ≡ take at body ++ take n buf
    = ap (λ (j : ℕ). take (j + n) (put_mid at k body buf)) (sym front) ∙ take-append-add (take at body) (buf ++ post_of at k body) n
    ∙ ap (λ (w : List ℕ). take at body ++ w) (take-append-le n buf (post_of at k body) m) in
    p ∙ ap (prepend_known (take at body)) q ∙ prepend_known_append c (take at body) (take n buf) ∙ ap (λ (w : List ℕ). prepend_known w c) (sym whole)

-- Texts whose lengths or first bytes differ are not one.
use Rattle.std.proofs.Common.{arith, ◌≡◌, ℕ, suc, length, List, [], ◌∷◌, refl, sym, ◌∙◌, ap, Bool, true, false, ◌&&◌}
use Rattle.std.specs.Prelude.{Some, None, slice_get, nat_eq}
use Rattle.std.specs.Cmp.Lexicographic.{pointwise}

some_is : {X : Type 0} {x y : X} → Some x ≡ Some y → x ≡ y
some_is e = cc

none_not : {X : Type 0} {x : X} → None ≡ Some x → ⊥
none_not e = cc

unequal : (a b : ℕ) → (a ≡ b → ⊥) → nat_eq a b ≡ false
unequal a b n = grind (arith, n)

pub firsts_differ : (xs ys : List ℕ) (a b : ℕ) → slice_get xs 0 ≡ Some a → slice_get ys 0 ≡ Some b → (a ≡ b → ⊥) → false ≡ pointwise nat_eq xs ys
firsts_differ [] ys a b e f n = absurd (none_not e)
firsts_differ (x ∷ xs) [] a b e f n = refl
firsts_differ (x ∷ xs) (y ∷ ys) a b e f n =
    sym (ap (λ (v : Bool). v && pointwise nat_eq xs ys) (unequal x y (λ same. n (sym (some_is e) ∙ same ∙ some_is f))))

and_false : (b : Bool) → (b && false) ≡ false
and_false true = refl
and_false false = refl

pub lengths_differ : (xs ys : List ℕ) → (length xs ≡ length ys → ⊥) → false ≡ pointwise nat_eq xs ys
lengths_differ [] [] n = absurd (n refl)
lengths_differ [] (y ∷ ys) n = refl
lengths_differ (x ∷ xs) [] n = refl
lengths_differ (x ∷ xs) (y ∷ ys) n =
    sym (and_false (nat_eq x y)) ∙ ap (λ (v : Bool). nat_eq x y && v) (lengths_differ xs ys (λ same. n (ap suc same)))

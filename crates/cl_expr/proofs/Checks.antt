-- Finite checks as Bools, and what they show.
use Rattle.std.proofs.Common.{◌≡◌, ℕ, zero, suc, List, [], ◌∷◌, ◌++◌, inl, inr, refl, sym, ◌∙◌, ap, subst, Bool, true, false, not, ◌&&◌, ◌||◌}
use Rattle.std.specs.Prelude.{Option, Some, None, slice_get}
use Rattle.std.proofs.Math.Dec.{eqb}
use Rattle.std.proofs.lemmas.Bool.{eq-eqb, eqb-true, and_parts, or_cases, or_left, or_right, false≢true}
use Rattle.cl_tree.specs.Derives.{Has}

abbrev pub every : {X : Type 0} → (X → Bool) → List X → Bool
every f [] = true
every f (x ∷ xs) = f x && every f xs

abbrev pub some : {X : Type 0} → (X → Bool) → List X → Bool
some f [] = false
some f (x ∷ xs) = f x || some f xs

abbrev pub pairwise : {X : Type 0} → (X → X → Bool) → List X → Bool
pairwise r [] = true
pairwise r (x ∷ xs) = every (r x) xs && pairwise r xs

abbrev pub member : {X : Type 0} → (X → ℕ) → X → List X → Bool
member n x [] = false
member n x (y ∷ ys) = eqb (n x) (n y) || member n x ys

abbrev pub when : Bool → Bool → Bool
when true b = b
when false b = true

abbrev pub is_some : {X : Type 0} → Option X → Bool
is_some None = false
is_some (Some x) = true

abbrev pub on_some : {X : Type 0} → (X → Bool) → Option X → Bool
on_some f None = true
on_some f (Some x) = f x

pub some_is : {X : Type 0} {x y : X} → Some x ≡ Some y → x ≡ y
some_is e = cc

pub none_not : {X : Type 0} {x : X} → None ≡ Some x → ⊥
none_not e = cc

pub when_use : (a b : Bool) → when a b ≡ true → a ≡ true → b ≡ true
when_use true b w e = w
when_use false b w e = absurd (false≢true e)

pub not_use : (b : Bool) → not b ≡ true → b ≡ true → ⊥
not_use true n e = false≢true n
not_use false n e = false≢true e

pub not_false : (b : Bool) → not b ≡ true → b ≡ false
not_false true n = absurd (false≢true n)
not_false false n = refl

pub not_true : (b : Bool) → not b ≡ false → b ≡ true
not_true true n = refl
not_true false n = absurd (false≢true (sym n))

pub some_true : {X : Type 0} (o : Option X) (x : X) → o ≡ Some x → is_some o ≡ true
some_true None x e = absurd (none_not e)
some_true (Some y) x e = refl

pub none_is : {X : Type 0} (o : Option X) → not (is_some o) ≡ true → o ≡ None
none_is None n = refl
none_is (Some x) n = absurd (false≢true n)

pub none_true : {X : Type 0} (o : Option X) → o ≡ None → not (is_some o) ≡ true
none_true None e = refl
none_true (Some x) e = absurd (none_not (sym e))

pub on_some_use : {X : Type 0} (f : X → Bool) (o : Option X) (x : X) → o ≡ Some x → on_some f o ≡ true → f x ≡ true
on_some_use f None x e t = absurd (none_not e)
on_some_use f (Some y) x e t = subst (λ (v : _). f v ≡ true) (some_is e) t

pub every_at : {X : Type 0} (f : X → Bool) (xs : List X) → every f xs ≡ true → (i : ℕ) (x : X) → slice_get xs i ≡ Some x → f x ≡ true
every_at f [] t i x e = absurd (none_not e)
every_at f (y ∷ ys) t zero x e = subst (λ (v : _). f v ≡ true) (some_is e) (and_parts (f y) (every f ys) t).0
every_at f (y ∷ ys) t (suc i) x e = every_at f ys (and_parts (f y) (every f ys) t).1 i x e

pub every_has : {X : Type 0} (f : X → Bool) (xs : List X) → every f xs ≡ true → (x : X) → Has xs x → f x ≡ true
every_has f xs t x h = every_at f xs t h.0 x h.1

pub some_at : {X : Type 0} (f : X → Bool) (xs : List X) (i : ℕ) (x : X) → slice_get xs i ≡ Some x → f x ≡ true → some f xs ≡ true
some_at f [] i x e t = absurd (none_not e)
some_at f (y ∷ ys) zero x e t = or_left (f y) (some f ys) (subst (λ (v : _). f v ≡ true) (sym (some_is e)) t)
some_at f (y ∷ ys) (suc i) x e t = or_right (f y) (some f ys) (some_at f ys i x e t)

-- of two members with the same property, which no pair has, the places are the same
pub pairwise_one : {X : Type 0} (r : X → X → Bool) (C : X → Type 0) → ((x y : X) → r x y ≡ true → C x → C y → ⊥) → (xs : List X) → pairwise r xs ≡ true
    → (i j : ℕ) (x y : X) → slice_get xs i ≡ Some x → slice_get xs j ≡ Some y → C x → C y → x ≡ y
pairwise_one r C clash [] t i j x y a b p q = absurd (none_not a)
pairwise_one r C clash (v ∷ vs) t zero zero x y a b p q = some_is (sym a ∙ b)
pairwise_one r C clash (v ∷ vs) t zero (suc j) x y a b p q =
    absurd (clash x y (subst (λ (u : _). r u y ≡ true) (some_is a) (every_at (r v) vs (and_parts (every (r v) vs) (pairwise r vs) t).0 j y b)) p q)
pairwise_one r C clash (v ∷ vs) t (suc i) zero x y a b p q =
    absurd (clash y x (subst (λ (u : _). r u x ≡ true) (some_is b) (every_at (r v) vs (and_parts (every (r v) vs) (pairwise r vs) t).0 i x a)) q p)
pairwise_one r C clash (v ∷ vs) t (suc i) (suc j) x y a b p q = pairwise_one r C clash vs (and_parts (every (r v) vs) (pairwise r vs) t).1 i j x y a b p q

module _ {X : Type 0} (n : X → ℕ) where
  pub has_member : (x : X) (xs : List X) (i : ℕ) → slice_get xs i ≡ Some x → member n x xs ≡ true
  has_member x [] i e = absurd (none_not e)
  has_member x (y ∷ ys) zero e = or_left (eqb (n x) (n y)) (member n x ys) (eq-eqb (n x) (n y) (ap n (sym (some_is e))))
  has_member x (y ∷ ys) (suc i) e = or_right (eqb (n x) (n y)) (member n x ys) (has_member x ys i e)

  pub member_left : (x : X) (xs ys : List X) → member n x xs ≡ true → member n x (xs ++ ys) ≡ true
  member_left x [] ys t = absurd (false≢true t)
  member_left x (y ∷ xs) ys t = elim (or_cases (eqb (n x) (n y)) (member n x xs) t) [
    | inl a ↦ or_left (eqb (n x) (n y)) (member n x (xs ++ ys)) a
    | inr b ↦ or_right (eqb (n x) (n y)) (member n x (xs ++ ys)) (member_left x xs ys b)
  ]

  pub member_right : (x : X) (xs ys : List X) → member n x ys ≡ true → member n x (xs ++ ys) ≡ true
  member_right x [] ys t = t
  member_right x (y ∷ xs) ys t = or_right (eqb (n x) (n y)) (member n x (xs ++ ys)) (member_right x xs ys t)

  module _ (inj : (x y : X) → n x ≡ n y → x ≡ y) where
    pub member_has : (x : X) (xs : List X) → member n x xs ≡ true → Has xs x
    member_has x [] t = absurd (false≢true t)
    member_has x (y ∷ ys) t = elim (or_cases (eqb (n x) (n y)) (member n x ys) t) [
      | inl a ↦ (0, ap Some (sym (inj x y (eqb-true (n x) (n y) a))))
      | inr b ↦ (let m = member_has x ys b in (suc m.0, m.1))
    ]

    pub every_member : (f : X → Bool) (xs : List X) → every f xs ≡ true → (x : X) → member n x xs ≡ true → f x ≡ true
    every_member f xs t x m = every_has f xs t x (member_has x xs m)

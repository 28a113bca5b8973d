-- Looking through a list.
use Rattle.std.proofs.Common.{◌≡◌, ℕ, zero, suc, ◌+◌, ◌≤◌, ◌<◌, List, ◌⊎◌, inl, inr, arith, refl, sym, ap, subst, length, get_or}
use Rattle.std.specs.Prelude.{Some, slice_get}
use Rattle.std.proofs.lemmas.Option.{slice_get-get_or, slice_get_within, get_or_from_slice_get}
use Rattle.cl_tree.specs.Derives.{Has}

-- no member before an index is such
abbrev pub Before : {X : Type 0} → (X → Type 0) → List X → ℕ → Type 0
Before P xs n = (i : ℕ) → i < n → (x : _) → slice_get xs i ≡ Some x → P x → ⊥

split : (i n : ℕ) → i < n + 1 → (i < n) ⊎ (i ≡ n)
split zero zero l = inr refl
split zero (suc n) l = inl (omega arith)
split (suc i) zero l = absurd (omega arith)
split (suc i) (suc n) l = elim (split i n (omega arith)) [ inl a ↦ inl (omega arith) | inr b ↦ inr (ap suc b) ]

module _ {X : Type 0} (P : X → Type 0) (xs : List X) where
  pub before_first : Before P xs 0
  before_first i l x e p = absurd (omega arith)

  pub before_next : (n : ℕ) (d : X) → Before P xs n → (P (get_or xs n d) → ⊥) → Before P xs (n + 1)
  before_next n d b not i l x e p = elim (split i n l) [
    | inl less ↦ b i less x e p
    | inr same ↦ (
        let f : get_or xs n d ≡ x = get_or_from_slice_get xs n x d (subst (λ (j : ℕ). slice_get xs j ≡ Some x) same e) in
        not (subst P (sym f) p))
  ]

  pub before_all : (n : ℕ) → Before P xs n → length xs ≤ n → (x : X) → Has xs x → P x → ⊥
  before_all n b l x has p = let w = slice_get_within xs has.0 x has.1 in b has.0 (omega arith) x has.1 p

pub has_at : {X : Type 0} (xs : List X) (n : ℕ) (d : X) → n < length xs → Has xs (get_or xs n d)
has_at xs n d l = (n, slice_get-get_or xs n d l)

pub has_in : {X : Type 0} (xs ys : List X) (n : ℕ) (d : X) → xs ≡ ys → n < length xs → Has ys (get_or xs n d)
has_in {X = X} xs ys n d e l = subst (λ (zs : List X). Has zs (get_or xs n d)) e (has_at xs n d l)

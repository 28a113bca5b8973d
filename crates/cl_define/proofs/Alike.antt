-- What is tested of two definitions is what sameness says.
use Rattle.std.proofs.Common.{◌≡◌, ℕ, List, [], ◌∷◌, Bool, true, ◌&&◌, Option, Some, None, refl, ap, map}
use Rattle.std.proofs.lemmas.Bool.{and_from, and_parts, false≢true}
use Rattle.std.proofs.lemmas.Slice.Eq.{bytes_eq-Decides, slice_eq-Decides}
use Rattle.std.specs.Bool.{Decides}
use Rattle.std.specs.Cmp.{booleans_Decides}
use Rattle.std.specs.Cmp.Lexicographic.{pointwise}
use mathlib.Core.Bool.{beq}
use Rattle.cl_base.specs.declared.macros.Macro.{Macro}
use Rattle.cl_base.specs.declared.macros.BodyToken.{BodyToken}
use Rattle.cl_base.specs.Tokens.{spells}
use Rattle.cl_define.specs.Sameness.{AreIdentical, IsSame}
use Rattle.cl_define.specs.code.Tokens.{same_list, same_macro, same_names, same_token}

names_Decides : (a b : Option (List (List ℕ))) → Decides (same_names a b) (a ≡ b)
names_Decides None None = (λ _. refl, λ _. refl)
names_Decides None (Some b) = (λ e. absurd (false≢true e), λ e. absurd (cc))
names_Decides (Some a) None = (λ e. absurd (false≢true e), λ e. absurd (cc))
names_Decides (Some a) (Some b) =
    let d : Decides (pointwise spells a b) (a ≡ b) = slice_eq-Decides bytes_eq-Decides a b (pointwise spells a b) refl in
    (λ e. ap Some (d.0 e), λ e. let k : a ≡ b = cc in d.1 k)

abbrev texts : List BodyToken → List (List ℕ)
texts xs = map (λ (t : BodyToken). t.text) xs

abbrev spaces : List BodyToken → List Bool
spaces xs = map (λ (t : BodyToken). t.space) xs

tokens_forth : (xs ys : List BodyToken) → pointwise same_token xs ys ≡ true → (texts xs ≡ texts ys) × (spaces xs ≡ spaces ys)
tokens_forth [] [] e = (refl, refl)
tokens_forth [] (y ∷ ys) e = absurd (false≢true e)
tokens_forth (x ∷ xs) [] e = absurd (false≢true e)
tokens_forth (x ∷ xs) (y ∷ ys) e =
    let p : (same_token x y ≡ true) × (pointwise same_token xs ys ≡ true) = and_parts (same_token x y) (pointwise same_token xs ys) e in
    let q : (spells x.text y.text ≡ true) × (beq x.space y.space ≡ true) = and_parts (spells x.text y.text) (beq x.space y.space) p.0 in
    let t : x.text ≡ y.text = (bytes_eq-Decides x.text y.text).0 q.0 in
    let s : x.space ≡ y.space = (booleans_Decides x.space y.space).0 q.1 in
    let more : (texts xs ≡ texts ys) × (spaces xs ≡ spaces ys) = tokens_forth xs ys p.1 in
    (λ i. t i ∷ more.0 i, λ i. s i ∷ more.1 i)

tokens_back : (xs ys : List BodyToken) → texts xs ≡ texts ys → spaces xs ≡ spaces ys → pointwise same_token xs ys ≡ true
tokens_back [] [] e f = refl
tokens_back [] (y ∷ ys) e f = absurd (cc)
tokens_back (x ∷ xs) [] e f = absurd (cc)
tokens_back (x ∷ xs) (y ∷ ys) e f =
    let t : x.text ≡ y.text = cc in
    let s : x.space ≡ y.space = cc in
    let ts : texts xs ≡ texts ys = cc in
    let ss : spaces xs ≡ spaces ys = cc in
    and_from (same_token x y) (pointwise same_token xs ys)
    (and_from (spells x.text y.text) (beq x.space y.space) ((bytes_eq-Decides x.text y.text).1 t) ((booleans_Decides x.space y.space).1 s))
    (tokens_back xs ys ts ss)

list_forth : (xs ys : List BodyToken) → same_list xs ys ≡ true → AreIdentical xs ys
list_forth [] [] e = record { spelled = refl; apart = refl }
list_forth [] (y ∷ ys) e = absurd (false≢true e)
list_forth (x ∷ xs) [] e = absurd (false≢true e)
list_forth (x ∷ xs) (y ∷ ys) e =
    let p : (spells x.text y.text ≡ true) × (pointwise same_token xs ys ≡ true) = and_parts (spells x.text y.text) (pointwise same_token xs ys) e in
    let t : x.text ≡ y.text = (bytes_eq-Decides x.text y.text).0 p.0 in
    let more : (texts xs ≡ texts ys) × (spaces xs ≡ spaces ys) = tokens_forth xs ys p.1 in
    record { spelled = λ i. t i ∷ more.0 i; apart = more.1 }

list_back : (xs ys : List BodyToken) → AreIdentical xs ys → same_list xs ys ≡ true
list_back [] [] h = refl
list_back [] (y ∷ ys) h = let e : texts [] ≡ texts (y ∷ ys) = h.spelled in absurd (cc)
list_back (x ∷ xs) [] h = let e : texts (x ∷ xs) ≡ texts [] = h.spelled in absurd (cc)
list_back (x ∷ xs) (y ∷ ys) h =
    let e : texts (x ∷ xs) ≡ texts (y ∷ ys) = h.spelled in
    let t : x.text ≡ y.text = cc in
    let ts : texts xs ≡ texts ys = cc in
    and_from (spells x.text y.text) (pointwise same_token xs ys) ((bytes_eq-Decides x.text y.text).1 t) (tokens_back xs ys ts h.apart)

pub macro_Decides : (a b : Macro) → Decides (same_macro a b) (IsSame a b)
macro_Decides a b = (
  λ e.
      let p : (same_names a.params b.params ≡ true) × ((beq a.variadic b.variadic && same_list a.body b.body) ≡ true) = and_parts (same_names a.params b.params) (beq a.variadic b.variadic && same_list a.body b.body) e in
      let q : (beq a.variadic b.variadic ≡ true) × (same_list a.body b.body ≡ true) = and_parts (beq a.variadic b.variadic) (same_list a.body b.body) p.1 in
      record { params = (names_Decides a.params b.params).0 p.0; variadic = (booleans_Decides a.variadic b.variadic).0 q.0; lists = list_forth a.body b.body q.1 },
  λ h.
      and_from (same_names a.params b.params) (beq a.variadic b.variadic && same_list a.body b.body) ((names_Decides a.params b.params).1 h.params)
      (and_from (beq a.variadic b.variadic) (same_list a.body b.body) ((booleans_Decides a.variadic b.variadic).1 h.variadic) (list_back a.body b.body h.lists)),
)

-- One more place of a name.
use Rattle.std.proofs.Common.{◌≡◌, ℕ, suc, zero, List, [], ◌∷◌, ◌++◌, length, Option, Some, None, Bool, true, false, refl, sym, ap, ◌∙◌, subst, Ordering, Less, Equal, Greater}
use Rattle.std.specs.Prelude.{slice_get}
use Rattle.std.specs.BTreeMap.{BTreeMap, get, Updates, UpdatesBy, is_at}
use Rattle.std.specs.Cmp.Lexicographic.{slice_cmp}
use Rattle.std.specs.Ordering.{is_eq, nat_cmp}
use Rattle.std.proofs.lemmas.Map.Lookups.{exact_bytes}
use Rattle.cl_parse.specs.code.Ahead.{IsOneMore, IsOneOf, numbers_of}
use Rattle.cl_parse.specs.declared.ahead.Places.{Places}

none_some : {A : Type 0} (x : A) → Some x ≡ None → ⊥
none_some x e = cc

pub front_get : {A : Type 0} (xs ys : List A) (k : ℕ) (x : A) → slice_get xs k ≡ Some x → slice_get (xs ++ ys) k ≡ Some x
front_get [] ys k x e = absurd (none_some x (sym e))
front_get (y ∷ xs) ys zero x e = e
front_get (y ∷ xs) ys (suc k) x e = front_get xs ys k x e

pub seam_get : {A : Type 0} (xs : List A) (y : A) → slice_get (xs ++ y ∷ []) (length xs) ≡ Some y
seam_get [] y = refl
seam_get (x ∷ xs) y = seam_get xs y

false_true : false ≡ true → ⊥
false_true e = cc

equal : (o : Ordering) → is_eq o ≡ true → o ≡ Equal
equal Less e = absurd (false_true e)
equal Equal e = refl
equal Greater e = absurd (false_true e)

pub same_name : (name other : List ℕ) → is_at (slice_cmp nat_cmp name) other ≡ true → name ≡ other
same_name name other e = exact_bytes name other (equal (slice_cmp nat_cmp name other) e)

abbrev Of : Type 0
Of = BTreeMap (List ℕ) (List ℕ)

abbrev at_name : Of → List ℕ → Option (List ℕ)
at_name m name = get (slice_cmp nat_cmp) m name

-- what was taken out goes back with one place more
put_back : (old mid new : Of) (name xs : List ℕ) (at : ℕ) → numbers_of (at_name old name) ≡ xs → UpdatesBy (slice_cmp nat_cmp) (slice_cmp nat_cmp name) old mid None
    → Updates (slice_cmp nat_cmp) mid new name (Some (xs ++ at ∷ [])) → (other : List ℕ) (b : Bool) → is_at (slice_cmp nat_cmp name) other ≡ b → (i : ℕ) → IsOneOf (numbers_of (at_name old other)) i
    → IsOneOf (numbers_of (at_name new other)) i
put_back old mid new name xs at e taken put other true f i one =
    let same : name ≡ other = same_name name other f in
    let there : slice_get xs one.0 ≡ Some i = subst (λ (ys : List ℕ). slice_get ys one.0 ≡ Some i) (ap (λ (n : List ℕ). numbers_of (at_name old n)) (sym same) ∙ e) one.1 in
    subst (λ (n : List ℕ). IsOneOf (numbers_of (at_name new n)) i) same (subst (λ (o : Option (List ℕ)). IsOneOf (numbers_of o) i) (sym put.1) (one.0, front_get xs (at ∷ []) one.0 i there))
put_back old mid new name xs at e taken put other false f i one =
    subst (λ (o : Option (List ℕ)). IsOneOf (numbers_of o) i) (sym (put.2 other f ∙ taken.2 other f)) one

pub one_more : (old : Places) (mid new : Of) (name xs : List ℕ) (at : ℕ) → numbers_of (at_name old.of name) ≡ xs → UpdatesBy (slice_cmp nat_cmp) (slice_cmp nat_cmp name) old.of mid None
    → Updates (slice_cmp nat_cmp) mid new name (Some (xs ++ at ∷ [])) → IsOneMore old (record { upto = old.upto; of = new }) name at
one_more old mid new name xs at e taken put = record {
  upto = refl;
  here = subst (λ (o : Option (List ℕ)). IsOneOf (numbers_of o) at) (sym put.1) (length xs, seam_get xs at);
  others = λ other i one. put_back old.of mid new name xs at e taken put other (is_at (slice_cmp nat_cmp name) other) refl i one;
}

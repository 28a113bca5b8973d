-- A name that is at hand.
use Rattle.std.proofs.Common.{◌≡◌, ◌⊎◌, ℕ, zero, suc, List, [], ◌∷◌, ◌++◌, Option, Some, None, Bool, true, false, ◌||◌, refl, sym, ap, ◌∙◌, subst, ⊎_elim}
use Rattle.std.proofs.lemmas.Bool.{false≢true}
use Rattle.std.proofs.lemmas.List.Folds.{list_any-append}
use Rattle.std.specs.Prelude.{Result, Ok, Err, OnOk, if◌then◌else◌, is_some, slice_get}
use Rattle.std.specs.BTreeMap.{get}
use Rattle.std.specs.Ordering.{nat_cmp}
use Rattle.std.specs.Cmp.Lexicographic.{bytes_decides, same_text, slice_cmp, texts_ties}
use Rattle.cl_macro.specs.Table.{is_name as is_own}
use Rattle.cl_pp.specs.Names.{contains, with_name}
use Rattle.cl_pp.specs.code.Keeping.{Sees, SeesNames}
use Rattle.cl_pp.specs.code.Seeing.{AreEmpty, IsAtHand, IsPut, is_at, is_name}
use Rattle.cl_pp.specs.declared.made.Made.{Made}
use Rattle.cl_pp.specs.declared.seen.Seen.{Seen}

stands : (o : Option (Option (List ℕ))) (name : List ℕ) → is_name o name ≡ true → o ≡ Some (Some name)
stands None name h = absurd (false≢true h)
stands (Some None) name h = absurd (false≢true h)
stands (Some (Some one)) name h = ap (λ (x : List ℕ). Some (Some x)) (same_text one name (sym h))

pub at_hand : (places : List (Option (List ℕ))) (i : ℕ) (name : List ℕ) → is_at places i name ≡ true → IsAtHand places name
at_hand places i name h = (i, stands (slice_get places i) name h)

abbrev named : Option (Option (List ℕ)) → Bool
named None = false
named (Some None) = false
named (Some (Some name)) = true

none_last : (places : List (Option (List ℕ))) (i : ℕ) (name : List ℕ) → slice_get (places ++ None ∷ []) i ≡ Some (Some name) → slice_get places i ≡ Some (Some name)
none_last [] zero name e = absurd (false≢true (ap named e))
none_last [] (suc i) name e = e
none_last (x ∷ places) zero name e = e
none_last (x ∷ places) (suc i) name e = none_last places i name e

pub none_more : (places : List (Option (List ℕ))) → AreEmpty places → AreEmpty (places ++ None ∷ [])
none_more places empty name here = empty name (here.0, none_last places here.0 name here.1)

either : (a b : Bool) → b ≡ true → (a || b) ≡ true
either true b h = refl
either false b h = h

first : (a b : Bool) → a ≡ true → (a || b) ≡ true
first true b h = refl
first false b h = absurd (false≢true h)

own : (name : List ℕ) → is_own name name ≡ true
own name = sym (texts_ties name name) ∙ (bytes_decides name name).1 refl

-- a name that is added is there, and those that were stay
added_own : (names : List (List ℕ)) (name : List ℕ) (b : Bool) → contains names name ≡ b → contains (if b then names else (names ++ name ∷ [])) name ≡ true
added_own names name true e = e
added_own names name false e =
    list_any-append (λ (n : List ℕ). is_own n name) names (name ∷ []) ∙ either (contains names name) (is_own name name || false) (first (is_own name name) false (own name))

added_other : (names : List (List ℕ)) (name other : List ℕ) (b : Bool) → contains names other ≡ true → contains (if b then names else (names ++ name ∷ [])) other ≡ true
added_other names name other true h = h
added_other names name other false h =
    list_any-append (λ (n : List ℕ). is_own n other) names (name ∷ []) ∙ first (contains names other) (is_own name other || false) h

put_own : (names : List (List ℕ)) (name : List ℕ) → contains (with_name names name) name ≡ true
put_own names name = added_own names name (contains names name) refl

put_other : (names : List (List ℕ)) (name other : List ℕ) → contains names other ≡ true → contains (with_name names name) other ≡ true
put_other names name other h = added_other names name other (contains names name) h

on_ok : {T E : Type 0} (r : Result T E) (P Q : Type 0) → (P → Q) → OnOk r P → OnOk r Q
on_ok (Ok x) P Q f p = f p
on_ok (Err e) P Q f p = tt

-- a name was looked up and put at hand
pub looked_at : {T E : Type 0} (r : Result T E) (old mid : Made) (new : Seen) (name : List ℕ) → Sees old → SeesNames mid → mid.done.looked ≡ with_name old.done.looked name → mid.seen.recent ≡ old.seen.recent
    → new.names ≡ mid.seen.names → OnOk r (IsPut name mid.seen.recent.items new.recent.items) → OnOk r (Sees (record { done = mid.done; seen = new }))
looked_at r old mid new name sees m l k n put =
    let after : Made = record { done = mid.done; seen = new } in
    let names : SeesNames after = λ other. ap (λ x. is_some (get (slice_cmp nat_cmp) x other)) n ∙ m other in
    let here : (other : List ℕ) → (other ≡ name) ⊎ IsAtHand mid.seen.recent.items other → contains mid.done.looked other ≡ true =
    λ other h. ap (λ (names : List (List ℕ)). contains names other) l ∙ ⊎_elim
    (λ (e : other ≡ name). ap (contains (with_name old.done.looked name)) e ∙ put_own old.done.looked name)
    (λ (at : IsAtHand mid.seen.recent.items other). put_other old.done.looked name other (sees.1 other (subst (λ x. IsAtHand x.items other) k at))) h in
    on_ok r (IsPut name mid.seen.recent.items new.recent.items) (Sees after) (λ p. (names, λ other at. here other (p other at))) put

-- nothing was looked up yet
pub none_seen : (made : Made) → ((name : List ℕ) → get (slice_cmp nat_cmp) made.seen.names name ≡ None) → AreEmpty made.seen.recent.items → made.done.looked ≡ [] → Sees made
none_seen made names empty e = (
  λ name. ap is_some (names name) ∙ sym (ap (λ (ns : List (List ℕ)). contains ns name) e),
  λ name here. absurd (empty name here),
)

-- All diagnostics have an order.
use Rattle.std.proofs.Common.{◌≡◌, List, [], ◌∷◌, Bool, true, false, ◌||◌, Ordering, Less, Equal, Greater, refl, sym, ap, ◌∙◌}
use Rattle.std.specs.List.{AllByRecursion}
use Rattle.std.specs.List.Sorted.{IsStrictlySortedBy}
use Rattle.std.specs.Ordering.{is_eq, ordering_reverse}
use Rattle.cl_base.specs.declared.token.Diag.{Diag}
use Rattle.cl_diag.specs.Order.{IsInOrder, diag_cmp, has}
use Rattle.cl_diag.proofs.Ordering.{diag_total, exact_diag}

abbrev inserted_by : Ordering → Diag → Diag → List Diag → List Diag → List Diag
inserted_by Less d x xs more = d ∷ (x ∷ xs)
inserted_by Equal d x xs more = x ∷ xs
inserted_by Greater d x xs more = x ∷ more

abbrev inserted : Diag → List Diag → List Diag
inserted d [] = d ∷ []
inserted d (x ∷ xs) = inserted_by (diag_cmp d x) d x xs (inserted d xs)

abbrev Above : Diag → List Diag → Type 0
Above k xs = AllByRecursion (λ (y : Diag). diag_cmp k y ≡ Less) xs

above_by : (o : Ordering) (k d x : Diag) (xs more : List Diag) → diag_cmp k d ≡ Less → Above k (x ∷ xs) → Above k more → Above k (inserted_by o d x xs more)
above_by Less k d x xs more l h m = (l, h)
above_by Equal k d x xs more l h m = h
above_by Greater k d x xs more l h m = (h.0, m)

above_inserted : (k d : Diag) (xs : List Diag) → diag_cmp k d ≡ Less → Above k xs → Above k (inserted d xs)
above_inserted k d [] l h = (l, tt)
above_inserted k d (x ∷ xs) l h = above_by (diag_cmp d x) k d x xs (inserted d xs) l h (above_inserted k d xs l h.1)

above_more : (d x : Diag) (xs : List Diag) → diag_cmp d x ≡ Less → Above x xs → Above d xs
above_more d x [] l h = tt
above_more d x (y ∷ ys) l h = (diag_total.trans d x y l h.0, above_more d x ys l h.1)

rises_by : (o : Ordering) (d x : Diag) (xs more : List Diag) → diag_cmp d x ≡ o → IsStrictlySortedBy diag_cmp (x ∷ xs)
    → (diag_cmp x d ≡ Less → Above x more) → IsStrictlySortedBy diag_cmp more → IsStrictlySortedBy diag_cmp (inserted_by o d x xs more)
unfolding IsStrictlySortedBy
rises_by Less d x xs more e h a s = ((e, above_more d x xs e h.0), h)
rises_by Equal d x xs more e h a s = h
rises_by Greater d x xs more e h a s = (a (diag_total.antisymm x d ∙ ap ordering_reverse e), s)

rises : (d : Diag) (xs : List Diag) → IsStrictlySortedBy diag_cmp xs → IsStrictlySortedBy diag_cmp (inserted d xs)
unfolding IsStrictlySortedBy
rises d [] h = (tt, tt)
rises d (x ∷ xs) h = rises_by (diag_cmp d x) d x xs (inserted d xs) refl h (λ l. above_inserted x d xs l h.0) (rises d xs h.1)

swapped : (a b y : Bool) → (a || (b || y)) ≡ (b || (a || y))
swapped true true y = refl
swapped true false y = refl
swapped false b y = refl

twice : (b y : Bool) → (b || y) ≡ (b || (b || y))
twice true y = refl
twice false y = refl

has_by : (o : Ordering) (d x : Diag) (xs more : List Diag) (q : Diag) → diag_cmp d x ≡ o → has more q ≡ (is_eq (diag_cmp q d) || has xs q)
    → has (inserted_by o d x xs more) q ≡ (is_eq (diag_cmp q d) || has (x ∷ xs) q)
has_by Less d x xs more q e h = refl
has_by Equal d x xs more q e h =
    let same : d ≡ x = exact_diag d x e in
    twice (is_eq (diag_cmp q x)) (has xs q) ∙ ap (λ (y : Diag). is_eq (diag_cmp q y) || (is_eq (diag_cmp q x) || has xs q)) (sym same)
has_by Greater d x xs more q e h = ap (λ (b : Bool). is_eq (diag_cmp q x) || b) h ∙ swapped (is_eq (diag_cmp q x)) (is_eq (diag_cmp q d)) (has xs q)

has_inserted : (d : Diag) (xs : List Diag) (q : Diag) → has (inserted d xs) q ≡ (is_eq (diag_cmp q d) || has xs q)
has_inserted d [] q = refl
has_inserted d (x ∷ xs) q = has_by (diag_cmp d x) d x xs (inserted d xs) q refl (has_inserted d xs q)

pub some_order : (diags : List Diag) → (all : List Diag) × IsInOrder diags all
unfolding IsStrictlySortedBy
some_order [] = ([], record { rising = tt; same = λ q. refl })
some_order (d ∷ ds) =
    let rest = some_order ds in
    (inserted d rest.0, record { rising = rises d rest.0 rest.1.rising; same = λ q. has_inserted d rest.0 q ∙ ap (λ (b : Bool). is_eq (diag_cmp q d) || b) (rest.1.same q) })

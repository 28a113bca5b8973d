-- Filters over lists.
use Rattle.std.proofs.Common.{◌≡◌, List, [], ◌∷◌, map, filter, Bool, true, false, cond, refl, ap, ◌∙◌, Result, Ok, Err, OnErr}
use Rattle.std.specs.List.{AllByRecursion}
use Rattle.std.proofs.lemmas.List.Elements.{All-filter, All-weaker, All-from_recursion, recursion_from_All}

-- a filter over a mapped list
kept_as : {X Y : Type 0} (f : X → Y) (b : Bool) (x : X) (xs : List X) → map f (cond b (x ∷ xs) xs) ≡ cond b (f x ∷ map f xs) (map f xs)
kept_as f true x xs = refl
kept_as f false x xs = refl

pub map-filter : {X Y : Type 0} (f : X → Y) (p : Y → Bool) (xs : List X) → map f (filter (λ x. p (f x)) xs) ≡ filter p (map f xs)
map-filter f p [] = refl
map-filter f p (x ∷ xs) =
    kept_as f (p (f x)) x (filter (λ y. p (f y)) xs)
    ∙ ap (λ ys. cond (p (f x)) (f x ∷ ys) ys) (map-filter f p xs)

pub all_left : {X : Type 0} (P Q : X → Type 0) (p : X → Bool) (xs : List X) → ((x : X) → P x → Q x) → AllByRecursion P xs → AllByRecursion Q (filter p xs)
all_left P Q p xs f all = recursion_from_All Q (filter p xs) (All-filter p Q xs (All-weaker P Q f xs (All-from_recursion P xs all)))

pub on_err : {X E : Type 0} (r : Result X E) (P : Type 0) → P → OnErr r P
on_err (Ok x) P p = tt
on_err (Err e) P p = p

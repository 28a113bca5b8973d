-- The requests that wait, as their messages.
use Rattle.std.proofs.Common.{◌≡◌, ℕ, ◌<◌, List, [], ◌∷◌, map, filter, Bool, true, false, not, cond, refl, sym, ap, ◌∙◌, subst, nat_eq, Result, Ok, Err, OnErr}
use Rattle.std.specs.Prelude.{Contains}
use Rattle.std.specs.List.{AllByRecursion}
use Rattle.std.proofs.lemmas.List.{length-map, get_or-map}
use Rattle.std.proofs.lemmas.List.Elements.{All-filter, All-weaker, All-contains, All-from_recursion, recursion_from_All}
use Rattle.cl_core.specs.declared.waiting.Waiting.{Waiting}
use Rattle.cl_history.specs.History.{without}

-- a filter over a mapped list
kept_as : {X Y : Type 0} (f : X → Y) (b : Bool) (x : X) (xs : List X) → map f (cond b (x ∷ xs) xs) ≡ cond b (f x ∷ map f xs) (map f xs)
kept_as f true x xs = refl
kept_as f false x xs = refl

pub map-filter : {X Y : Type 0} (f : X → Y) (p : Y → Bool) (xs : List X) → map f (filter (λ x. p (f x)) xs) ≡ filter p (map f xs)
map-filter f p [] = refl
map-filter f p (x ∷ xs) =
    kept_as f (p (f x)) x (filter (λ y. p (f y)) xs)
    ∙ ap (λ ys. cond (p (f x)) (f x ∷ ys) ys) (map-filter f p xs)

-- the messages of those that are left
pub messages_left : (m : ℕ) (ws : List Waiting)
    → map (λ (w : Waiting). w.job.message) (filter (λ w. not (nat_eq w.job.message m)) ws) ≡ without m (map (λ (w : Waiting). w.job.message) ws)
messages_left m ws = map-filter (λ (w : Waiting). w.job.message) (λ k. not (nat_eq k m)) ws

pub contains_as : {X Y : Type 0} (f : X → Y) (xs : List X) (x : X) → Contains xs x → Contains (map f xs) (f x)
contains_as f xs x h = (h.0, subst (λ n. h.0 < n) (sym (length-map xs f)) h.1, get_or-map f xs h.0 x (f x) h.1 ∙ ap f h.2)

pub one_of : {X : Type 0} (P : X → Type 0) (xs : List X) (x : X) → AllByRecursion P xs → Contains xs x → P x
one_of P xs x all h = All-contains P xs x (All-from_recursion P xs all) h

pub all_left : {X : Type 0} (P Q : X → Type 0) (p : X → Bool) (xs : List X) → ((x : X) → P x → Q x) → AllByRecursion P xs → AllByRecursion Q (filter p xs)
all_left P Q p xs f all = recursion_from_All Q (filter p xs) (All-filter p Q xs (All-weaker P Q f xs (All-from_recursion P xs all)))

pub on_err : {X E : Type 0} (r : Result X E) (P : Type 0) → P → OnErr r P
on_err (Ok x) P p = tt
on_err (Err e) P p = p

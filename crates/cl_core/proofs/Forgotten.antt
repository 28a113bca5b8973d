-- The headers of files that changed are forgotten, but for open documents.
use Rattle.std.proofs.Common.{◌≡◌, ℕ, List, [], ◌∷◌, ◌++◌, Bool, true, false, not, refl, sym, ap, ◌∙◌, if◌then◌else◌}
use Rattle.std.specs.Prelude.{Option, None, is_some, ◌&&◌, ◌||◌}
use Rattle.std.specs.List.{list_any}
use Rattle.std.specs.Str.{bytes_eq}
use Rattle.std.specs.Cmp.Lexicographic.{same_text}
use Rattle.std.proofs.lemmas.Bool.{false≢true}
use Rattle.cl_base.specs.declared.headers.Known.{Known}
use Rattle.cl_headers.specs.Headers.{Headers, known_at}

any_last : (p : List ℕ → Bool) (xs : List (List ℕ)) (x : List ℕ) → list_any p (xs ++ x ∷ []) ≡ (list_any p xs || p x)
any_last p [] x = any_one (p x)
  where
    any_one : (b : Bool) → (b || false) ≡ b
    any_one true = refl
    any_one false = refl
any_last p (y ∷ ys) x = any_more (p y) (list_any p (ys ++ x ∷ [])) (list_any p ys || p x) (list_any p ys) (p x) (any_last p ys x) refl
  where
    any_more : (a b c d e : Bool) → b ≡ c → c ≡ (d || e) → (a || b) ≡ ((a || d) || e)
    any_more true b c d e same is = refl
    any_more false b c d e same is = same ∙ is

forgot : (a b standing : Bool) (x : Option Known) → (b ≡ true → standing ≡ false)
    → (if b then None else (if a && not standing then None else x)) ≡ (if (a || b) && not standing then None else x)
forgot true true true x closed = absurd (false≢true (sym (closed refl)))
forgot true true false x closed = refl
forgot true false standing x closed = refl
forgot false true true x closed = absurd (false≢true (sym (closed refl)))
forgot false true false x closed = refl
forgot false false standing x closed = refl

stayed : (a b standing : Bool) (x : Option Known) → (b ≡ true → standing ≡ true)
    → (if a && not standing then None else x) ≡ (if (a || b) && not standing then None else x)
stayed true true standing x stands = refl
stayed true false standing x stands = refl
stayed false true true x stands = refl
stayed false true false x stands = absurd (false≢true (stands refl))
stayed false false standing x stands = refl

pub forgotten : (before now start : Headers) (texts : List ℕ → Option (List ℕ)) (some more : List (List ℕ)) (path : List ℕ) → more ≡ some ++ path ∷ [] → is_some (texts path) ≡ false
    → ((q : List ℕ) → known_at now q ≡ (if bytes_eq path q then None else known_at before q))
    → ((q : List ℕ) → known_at before q ≡ (if list_any (λ p. bytes_eq p q) some && not (is_some (texts q)) then None else known_at start q))
    → (q : List ℕ) → known_at now q ≡ (if list_any (λ p. bytes_eq p q) more && not (is_some (texts q)) then None else known_at start q)
forgotten before now start texts some more path is closed puts kept q =
    puts q ∙ ap (λ (o : Option Known). if bytes_eq path q then None else o) (kept q)
    ∙ forgot (list_any (λ p. bytes_eq p q) some) (bytes_eq path q) (is_some (texts q)) (known_at start q) (λ e. ap (λ (p : List ℕ). is_some (texts p)) (sym (same_text path q (sym e))) ∙ closed)
    ∙ ap (λ (b : Bool). if b && not (is_some (texts q)) then None else known_at start q) (sym (ap (list_any (λ p. bytes_eq p q)) is ∙ any_last (λ p. bytes_eq p q) some path))

pub stays : (before start : Headers) (texts : List ℕ → Option (List ℕ)) (some more : List (List ℕ)) (path : List ℕ) → more ≡ some ++ path ∷ [] → is_some (texts path) ≡ true
    → ((q : List ℕ) → known_at before q ≡ (if list_any (λ p. bytes_eq p q) some && not (is_some (texts q)) then None else known_at start q))
    → (q : List ℕ) → known_at before q ≡ (if list_any (λ p. bytes_eq p q) more && not (is_some (texts q)) then None else known_at start q)
stays before start texts some more path is stands kept q =
    kept q
    ∙ stayed (list_any (λ p. bytes_eq p q) some) (bytes_eq path q) (is_some (texts q)) (known_at start q) (λ e. ap (λ (p : List ℕ). is_some (texts p)) (sym (same_text path q (sym e))) ∙ stands)
    ∙ ap (λ (b : Bool). if b && not (is_some (texts q)) then None else known_at start q) (sym (ap (list_any (λ p. bytes_eq p q)) is ∙ any_last (λ p. bytes_eq p q) some path))

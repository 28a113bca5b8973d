-- Two rows in order are the same where each entry of either is known in the other.
use Rattle.std.proofs.Common.{◌≡◌, ℕ, List, [], ◌∷◌, ◌++◌, Bool, true, false, refl, sym, ap, ◌∙◌, subst}
use Rattle.std.proofs.lemmas.Bool.{true≢false}
use Rattle.std.proofs.lemmas.Map.Lookups.{exact_bytes}
use Rattle.std.proofs.lemmas.Map.Keys.{sorted_head, sorted_tail}
use Rattle.std.proofs.lemmas.Cmp.{nat_list_cmp_total}
use Rattle.std.specs.Prelude.{Option, None, Some}
use Rattle.std.specs.Option.{is_some}
use Rattle.std.specs.Map.{keys_of}
use Rattle.std.specs.declared.cmp.Ordering.{Ordering}
use Rattle.std.specs.declared.cmp.Ordering.TheVariants.{Less, Equal, Greater}
use Rattle.std.specs.Cmp.{tied_itself}
use Rattle.cl_base.specs.declared.headers.Known.{Known}
use Rattle.cl_headers.specs.Headers.{Headers, known_at}
use Rattle.cl_headers.specs.Maps.{InOrder}
use Rattle.cl_headers.specs.code.Within.{IsWithin}
use Rattle.cl_headers.proofs.Row.{Entry, order, Stands, none_known, stands_before, turned}
use Rattle.cl_headers.proofs.Same.{known_Decides}
use Rattle.cl_base.specs.contracts.headers.KnownPartialEq.TheImpl as equality

-- ---- the entries of a tree, by its parts

pub within_parts : (l : Headers) (e : Entry) (r others : Headers) → IsWithin (l ++ e ∷ r) others → IsWithin l others × (known_at others e.0 ≡ Some e.1) × IsWithin r others
within_parts [] e r others within = (tt, within.0, within.1)
within_parts (d ∷ l) e r others within = let rest = within_parts l e r others within.1 in ((within.0, rest.0), rest.1, rest.2)

pub parts_within : (l : Headers) (e : Entry) (r others : Headers) → IsWithin l others → known_at others e.0 ≡ Some e.1 → IsWithin r others → IsWithin (l ++ e ∷ r) others
parts_within [] e r others left here right = (here, right)
parts_within (d ∷ l) e r others left here right = (left.0, parts_within l e r others left.1 here right)

-- ---- a row is within itself

some_told : (known : Known) → None ≡ Some known → ⊥
some_told known e = true≢false (sym (ap is_some e))

within_more : (d : Entry) (es others : Headers) → Stands Less d.0 es → IsWithin es others → IsWithin es (d ∷ others)
within_more d [] others later within = tt
within_more d (e ∷ es) others later within = (rw (turned d.0 e.0 Less later.0) within.0, within_more d es others later.1 within.1)

pub within_itself : (es : Headers) → InOrder es → IsWithin es es
within_itself [] s = tt
within_itself (d ∷ es) s =
    (rw (tied_itself nat_list_cmp_total d.0), within_more d es es (sorted_head order d.0 (keys_of es) s) (within_itself es (sorted_tail order d.0 (keys_of es) s)))

-- ---- both ways

within_less : (d : Entry) (es others : Headers) → Stands Less d.0 es → IsWithin es (d ∷ others) → IsWithin es others
within_less d [] others later within = tt
within_less d (e ∷ es) others later within = ((rw (turned d.0 e.0 Less later.0) at within.0), within_less d es others later.1 within.1)

told : Known → Option Known → Known
told other None = other
told other (Some known) = known

told_alike : (a b : Known) → Some a ≡ Some b → a ≡ b
unfolding told
told_alike a b e = ap (told a) e

same_row : (o : Ordering) (a b : Headers) (x y : Entry) → order x.0 y.0 ≡ o → InOrder (x ∷ a) → InOrder (y ∷ b) → IsWithin (x ∷ a) (y ∷ b) → IsWithin (y ∷ b) (x ∷ a)
    → (InOrder a → InOrder b → IsWithin a b → IsWithin b a → a ≡ b) → x ∷ a ≡ y ∷ b
same_row Less a b x y e s t v w rest = absurd (some_told x.1 (sym (none_known x.0 (y ∷ b) (stands_before x.0 y b t e)) ∙ v.0))
same_row Greater a b x y e s t v w rest = absurd (some_told y.1 (sym (none_known y.0 (x ∷ a) (stands_before y.0 x a s (turned x.0 y.0 Greater e))) ∙ w.0))
same_row Equal a b x y e s t v w rest =
    let later_a : Stands Less x.0 a = sorted_head order x.0 (keys_of a) s in
    let later_b : Stands Less y.0 b = sorted_head order y.0 (keys_of b) t in
    let path : x.0 ≡ y.0 = exact_bytes x.0 y.0 e in
    let known : x.1 ≡ y.1 = told_alike x.1 y.1 (sym v.0 ∙ rw e) in
    let tails : a ≡ b =
    rest (sorted_tail order x.0 (keys_of a) s) (sorted_tail order y.0 (keys_of b) t)
    (within_less y a b (subst (λ (p : List ℕ). Stands Less p a) path later_a) v.1) (within_less x b a (subst (λ (p : List ℕ). Stands Less p b) (sym path) later_b) w.1)
    in
    λ i. (path i, known i) ∷ tails i

pub same_rows : (a b : Headers) → InOrder a → InOrder b → IsWithin a b → IsWithin b a → a ≡ b
same_rows [] [] s t v w = refl
same_rows [] (y ∷ b) s t v w = absurd (some_told y.1 w.0)
same_rows (x ∷ a) [] s t v w = absurd (some_told x.1 v.0)
same_rows (x ∷ a) (y ∷ b) s t v w = same_row (order x.0 y.0) a b x y refl s t v w (same_rows a b)

-- ---- the answers about a fork

pub stays_out : (part whole : Type 0) → (whole → part) → (b : Bool) → (part → b ≡ true) → b ≡ false → (false ≡ true → whole) × (whole → false ≡ true)
stays_out part whole f b holds fails = (λ t. absurd (true≢false (sym t)), λ w. sym fails ∙ holds (f w))

pub left_within : (now l : Headers) (e : Entry) (r others : Headers) → now ≡ l ++ e ∷ r → IsWithin now others → IsWithin l others
left_within now l e r others is within = (within_parts l e r others (subst (λ (es : Headers). IsWithin es others) is within)).0

pub here_within : (now l : Headers) (e : Entry) (r others : Headers) → now ≡ l ++ e ∷ r → IsWithin now others → known_at others e.0 ≡ Some e.1
here_within now l e r others is within = (within_parts l e r others (subst (λ (es : Headers). IsWithin es others) is within)).1

pub right_within : (now l : Headers) (e : Entry) (r others : Headers) → now ≡ l ++ e ∷ r → IsWithin now others → IsWithin r others
right_within now l e r others is within = (within_parts l e r others (subst (λ (es : Headers). IsWithin es others) is within)).2

pub all_within : (now l : Headers) (e : Entry) (r others : Headers) → now ≡ l ++ e ∷ r → IsWithin l others → known_at others e.0 ≡ Some e.1 → IsWithin r others → IsWithin now others
all_within now l e r others is left here right = subst (λ (es : Headers). IsWithin es others) (sym is) (parts_within l e r others left here right)

pub same_if : (a b : Headers) → InOrder a → InOrder b → IsWithin a b → (c : Bool) → (c ≡ true → IsWithin b a) × (IsWithin b a → c ≡ true) → (c ≡ true → a ≡ b) × (a ≡ b → c ≡ true)
same_if a b s t v c back = (λ holds. same_rows a b s t v (back.0 holds), λ e. back.1 (subst (λ (es : Headers). IsWithin es a) e (within_itself a s)))

pub same_not : (a b : Headers) → InOrder a → (c : Bool) → (IsWithin a b → c ≡ true) → c ≡ false → (false ≡ true → a ≡ b) × (a ≡ b → false ≡ true)
same_not a b s c holds fails = stays_out (IsWithin a b) (a ≡ b) (λ e. subst (IsWithin a) e (within_itself a s)) c holds fails

pub known_if : (told : Option Known) (a b : Known) → told ≡ Some a → (r : Bool) → r ≡ equality.ghosts.eq a b → (r ≡ true → told ≡ Some b) × (told ≡ Some b → r ≡ true)
known_if told a b is r e = (λ holds. is ∙ ap Some ((known_Decides a b).0 (sym e ∙ holds)), λ also. e ∙ (known_Decides a b).1 (told_alike a b (sym is ∙ also)))

pub known_not : (told : Option Known) (b : Known) → told ≡ None → (false ≡ true → told ≡ Some b) × (told ≡ Some b → false ≡ true)
known_not told b is = (λ t. absurd (true≢false (sym t)), λ also. absurd (some_told b (sym is ∙ also)))

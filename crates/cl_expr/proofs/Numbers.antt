-- The rows of numbers say what a token begins.
use Rattle.std.proofs.Common.{◌≡◌, ℕ, zero, suc, ◌-◌, List, [], ◌∷◌, ◌++◌, ◌⊎◌, inl, inr, map, arith, refl, sym, ◌∙◌, ap, subst, Bool, true, false, not, ◌&&◌}
use Rattle.std.specs.Prelude.{Option, Some, None, slice_get, IfSome}
use Rattle.std.specs.Option.{option_map}
use Rattle.std.proofs.Math.Dec.{eqb}
use Rattle.std.proofs.lemmas.Bool.{eq-eqb, and_parts, or_cases, or_left, or_right, false≢true}
use Rattle.std.proofs.lemmas.Option.{slice_get-map}
use Rattle.cl_tree.specs.declared.class.Class.{Class}
use Rattle.cl_tree.specs.declared.nonterminal.Nonterminal.{Nonterminal}
use Rattle.cl_tree.specs.declared.grammar.Symbol.{Symbol}
use Rattle.cl_tree.specs.declared.grammar.Symbol.TheVariants.{Token, Node, Entry}
use Rattle.cl_tree.specs.declared.grammar.Separator.{Separator}
use Rattle.cl_tree.specs.declared.lexeme.Lexeme.{Lexeme}
use Rattle.cl_tree.specs.declared.scope.Scope.{Scope}
use Rattle.cl_tree.specs.Scopes.{class_at}
use Rattle.cl_tree.specs.Grammar.{takes}
use Rattle.cl_tree.specs.Derives.{Has}
use Rattle.cl_expr.specs.declared.table.Edge.{Edge}
use Rattle.cl_expr.specs.declared.table.Head.{Head}
use Rattle.cl_expr.specs.code.Table.{Place, Goal, places, goals, place, goal, place_of, goal_of, nothing, number, edges, openers, suffixes, corner, firsts, entry_classes}
use Rattle.cl_expr.specs.code.Looks.{class_number, number_rows, place_numbers, opener_numbers, suffix_numbers, row_of, in_row, digit, number_at}
use Rattle.cl_expr.specs.code.Parses.{BeginsSymbol, Begins, Enters, GoesOn, GoesWith}
use Rattle.cl_expr.proofs.All.{all_classes, numbered_class, same_class_is}
use Rattle.cl_expr.proofs.Checks.{every, every_at, every_member, some_is, none_not, not_use}
use Rattle.cl_expr.proofs.Conditions.{among, among_has, beginners, beginners_of, begins_among, entering, enters_among}

-- each token of the lists has a number
abbrev filled : List (List Class) → List ℕ → Bool
filled kss row = every (λ ks. every (λ k. not (eqb (in_row row k) 0)) ks) kss

abbrev on_list : Class → Option (List Class) → Bool
on_list k None = false
on_list k (Some ks) = among k ks

-- and each number is that of a list with the token
abbrev names : ℕ → Class → List (List Class) → Bool
names zero k kss = true
names (suc n) k kss = on_list k (slice_get kss n)

abbrev sound : List Class → List (List Class) → List ℕ → Bool
sound [] kss row = true
sound (k ∷ ks) kss [] = false
sound (k ∷ ks) kss (c ∷ row) = names (c - 48) k kss && sound ks kss row

abbrev right : List (List Class) → List ℕ → Bool
right kss row = filled kss row && sound all_classes kss row

abbrev all_right : {X : Type 0} → (X → List (List Class)) → List X → List ℕ → Bool
all_right f [] [] = true
all_right f [] (n ∷ ns) = false
all_right f (x ∷ xs) [] = false
all_right f (x ∷ xs) (n ∷ ns) = right (f x) (row_of (Some n)) && all_right f xs ns

-- what the number of a token says of the lists
pub record Right (kss : List (List Class)) (k : Class) (n : ℕ) : Type 0 where
  pub none : n ≡ 0 → (i : ℕ) (ks : List Class) → slice_get kss i ≡ Some ks → among k ks ≡ true → ⊥
  pub some : (n ≡ 0 → ⊥) → (ks : List Class) × (slice_get kss (n - 1) ≡ Some ks) × (among k ks ≡ true)

sound_at : (ks : List Class) (kss : List (List Class)) (row : List ℕ) → sound ks kss row ≡ true → (i : ℕ) (k : Class) → slice_get ks i ≡ Some k
    → names (digit (slice_get row i)) k kss ≡ true
sound_at [] kss row t i k e = absurd (none_not e)
sound_at (x ∷ ks) kss [] t i k e = absurd (false≢true t)
sound_at (x ∷ ks) kss (c ∷ row) t zero k e = subst (λ (v : Class). names (c - 48) v kss ≡ true) (some_is e) (and_parts (names (c - 48) x kss) (sound ks kss row) t).0
sound_at (x ∷ ks) kss (c ∷ row) t (suc i) k e = sound_at ks kss row (and_parts (names (c - 48) x kss) (sound ks kss row) t).1 i k e

on_list_use : (k : Class) (o : Option (List Class)) → on_list k o ≡ true → (ks : List Class) × (o ≡ Some ks) × (among k ks ≡ true)
on_list_use k None t = absurd (false≢true t)
on_list_use k (Some ks) t = (ks, refl, t)

names_use : (n : ℕ) (k : Class) (kss : List (List Class)) → names n k kss ≡ true → (n ≡ 0 → ⊥) → (ks : List Class) × (slice_get kss (n - 1) ≡ Some ks) × (among k ks ≡ true)
names_use zero k kss t some = absurd (some refl)
names_use (suc n) k kss t some =
    let same : n ≡ suc n - 1 = omega arith in
    subst (λ (m : ℕ). (ks : List Class) × (slice_get kss m ≡ Some ks) × (among k ks ≡ true)) same (on_list_use k (slice_get kss n) t)

right_use : (kss : List (List Class)) (row : List ℕ) (k : Class) → right kss row ≡ true → Right kss k (in_row row k)
right_use kss row k t = record {
  none = λ e i ks at m. not_use (eqb (in_row row k) 0)
      (every_member class_number same_class_is (λ v. not (eqb (in_row row v) 0)) ks
      (every_at (λ vs. every (λ v. not (eqb (in_row row v) 0)) vs) kss (and_parts (filled kss row) (sound all_classes kss row) t).0 i ks at) k m)
      (eq-eqb (in_row row k) 0 e);
  some = names_use (in_row row k) k kss (sound_at all_classes kss row (and_parts (filled kss row) (sound all_classes kss row) t).1 (class_number k) k (numbered_class k));
}

right_nothing : (k : Class) → Right [] k 0
right_nothing k = record { none = λ e i ks at m. none_not at; some = λ some. absurd (some refl) }

module _ {X : Type 0} (f : X → List (List Class)) where
  right_at : (xs : List X) (ns : List ℕ) → all_right f xs ns ≡ true → (i : ℕ) (x : X) → slice_get xs i ≡ Some x → right (f x) (row_of (slice_get ns i)) ≡ true
  right_at [] ns t i x e = absurd (none_not e)
  right_at (y ∷ ys) [] t i x e = absurd (false≢true t)
  right_at (y ∷ ys) (n ∷ ns) t zero x e = subst (λ (v : X). right (f v) (row_of (Some n)) ≡ true) (some_is e) (and_parts (right (f y) (row_of (Some n))) (all_right f ys ns) t).0
  right_at (y ∷ ys) (n ∷ ns) t (suc i) x e = right_at ys ns (and_parts (right (f y) (row_of (Some n))) (all_right f ys ns) t).1 i x e

  right_past : (xs : List X) (ns : List ℕ) → all_right f xs ns ≡ true → (i : ℕ) → slice_get xs i ≡ None → slice_get ns i ≡ None
  right_past [] [] t i e = refl
  right_past [] (n ∷ ns) t i e = absurd (false≢true t)
  right_past (y ∷ ys) [] t i e = absurd (false≢true t)
  right_past (y ∷ ys) (n ∷ ns) t zero e = absurd (none_not (sym e))
  right_past (y ∷ ys) (n ∷ ns) t (suc i) e = right_past ys ns (and_parts (right (f y) (row_of (Some n))) (all_right f ys ns) t).1 i e

  right_in : (xs : List X) (ns : List ℕ) → all_right f xs ns ≡ true → (d : Option X → X) (i : ℕ) (k : Class) → f (d None) ≡ [] → ((x : X) → d (Some x) ≡ x)
      → Right (f (d (slice_get xs i))) k (number_at ns i k)
  right_in xs ns t d i k nothing same = go (slice_get xs i) refl
    where
      go : (o : Option X) → slice_get xs i ≡ o → Right (f (d o)) k (number_at ns i k)
      go None e = rw (nothing, right_past xs ns t i e) (right_nothing k)
      go (Some x) e = rw (same x) (right_use (f x) (row_of (slice_get ns i)) k (right_at xs ns t i x e))

abbrev begun : Edge → List Class
begun e = beginners e.before e.symbol

abbrev place_lists : Place → List (List Class)
place_lists p = map begun p.edges

abbrev opener_lists : Goal → List (List Class)
opener_lists g = map entering g.openers

abbrev going_on : Option Head → List Class
going_on None = []
going_on (Some c) = entering c.next

abbrev after_corner : ℕ → List Class
after_corner s = going_on (corner s)

abbrev suffix_lists : Goal → List (List Class)
suffix_lists g = map after_corner g.suffixes

places_right : all_right place_lists places place_numbers ≡ true
unfolding places place_numbers number_rows firsts goal goals entry_classes
places_right = refl

openers_right : all_right opener_lists goals opener_numbers ≡ true
unfolding goals opener_numbers number_rows places place edges firsts goal entry_classes
openers_right = refl

suffixes_right : all_right suffix_lists goals suffix_numbers ≡ true
unfolding goals suffix_numbers number_rows places place edges corner firsts goal entry_classes
suffixes_right = refl

place_right : (q : ℕ) (k : Class) → Right (map begun (edges q)) k (number_at place_numbers q k)
unfolding edges place
place_right q k = right_in place_lists places place_numbers places_right place_of q k refl (λ x. refl)

opener_right : (g : Nonterminal) (k : Class) → Right (map entering (openers g)) k (number_at opener_numbers (number g) k)
unfolding openers goal
opener_right g k = right_in opener_lists goals opener_numbers openers_right goal_of (number g) k refl (λ x. refl)

suffix_right : (g : Nonterminal) (k : Class) → Right (map after_corner (suffixes g)) k (number_at suffix_numbers (number g) k)
unfolding suffixes goal
suffix_right g k = right_in suffix_lists goals suffix_numbers suffixes_right goal_of (number g) k refl (λ x. refl)

-- a member of a list of lists is that of a member
module _ {X : Type 0} (f : X → List Class) (xs : List X) (k : Class) (n : ℕ) (r : Right (map f xs) k n) where
  pub listed : (n ≡ 0 → ⊥) → (x : X) × (slice_get xs (n - 1) ≡ Some x) × (among k (f x) ≡ true)
  listed some = go (slice_get xs (n - 1)) refl
    where
      it : (ks : List Class) × (slice_get (map f xs) (n - 1) ≡ Some ks) × (among k ks ≡ true)
      it = r.some some

      go : (o : Option X) → slice_get xs (n - 1) ≡ o → (x : X) × (o ≡ Some x) × (among k (f x) ≡ true)
      go None e = absurd (none_not (sym (slice_get-map f xs (n - 1) ∙ ap (option_map f) e) ∙ it.1))
      go (Some x) e =
          (x, refl, subst (λ (ks : List Class). among k ks ≡ true) (some_is (sym it.1 ∙ slice_get-map f xs (n - 1) ∙ ap (option_map f) e)) it.2)

  pub unlisted : n ≡ 0 → (x : X) → Has xs x → among k (f x) ≡ true → ⊥
  unlisted e x h m = r.none e h.0 (f x) (slice_get-map f xs h.0 ∙ ap (option_map f) h.1) m

among_symbol : (s : Symbol) (k : Class) → among k (beginners None s) ≡ true → BeginsSymbol s k
among_symbol (Token c a) k m = among_has k (takes c) m
among_symbol (Node g) k m = among_has k (firsts g) m
among_symbol Entry k m = among_has k entry_classes m

only_member : (a k : Class) (i : ℕ) → slice_get (a ∷ []) i ≡ Some k → a ≡ k
only_member a k zero e = some_is e
only_member a k (suc i) e = absurd (none_not e)

among_begins : (b : Option Separator) (s : Symbol) (k : Class) → among k (beginners b s) ≡ true → Begins b s k
among_begins None s k m = among_symbol s k m
among_begins (Some o) s k m = let h = among_has k (o.class ∷ []) m in only_member o.class k h.0 h.1

-- the edge that a token begins
pub edge_there : (q : ℕ) (k : Class) → (number_at place_numbers q k ≡ 0 → ⊥) → (e : Edge) × (slice_get (edges q) (number_at place_numbers q k - 1) ≡ Some e) × Begins e.before e.symbol k
edge_there q k some =
    let it = listed begun (edges q) k (number_at place_numbers q k) (place_right q k) some in
    (it.0, it.1, among_begins (it.0).before (it.0).symbol k it.2)

pub edge_nowhere : (q : ℕ) (k : Class) → number_at place_numbers q k ≡ 0 → Enters q k → ⊥
edge_nowhere q k e n = unlisted begun (edges q) k (number_at place_numbers q k) (place_right q k) e n.0 n.1 (begins_among (n.0).before (n.0).symbol k n.2)

member_either : (k : Class) (xs ys : List Class) → among k (xs ++ ys) ≡ true → (among k xs ≡ true) ⊎ (among k ys ≡ true)
member_either k [] ys m = inr m
member_either k (x ∷ xs) ys m = elim (or_cases (eqb (class_number k) (class_number x)) (among k (xs ++ ys)) m) [
  | inl a ↦ inl (or_left (eqb (class_number k) (class_number x)) (among k xs) a)
  | inr b ↦ elim (member_either k xs ys b) [
    | inl c ↦ inl (or_right (eqb (class_number k) (class_number x)) (among k xs) c)
    | inr d ↦ inr d
  ]
]

among_of : (es : List Edge) (k : Class) → among k (beginners_of es) ≡ true → (e : Edge) × Has es e × (among k (beginners e.before e.symbol) ≡ true)
among_of [] k m = absurd (false≢true m)
among_of (x ∷ es) k m = elim (member_either k (beginners x.before x.symbol) (beginners_of es) m) [
  | inl a ↦ (x, (0, refl), a)
  | inr b ↦ (let r = among_of es k b in (r.0, (suc r.1.0, r.1.1), r.2))
]

among_enters : (q : ℕ) (k : Class) → among k (entering q) ≡ true → Enters q k
among_enters q k m = let r = among_of (edges q) k m in (r.0, r.1, among_begins (r.0).before (r.0).symbol k r.2)

pub edge_enters : (q : ℕ) (k : Class) → (number_at place_numbers q k ≡ 0 → ⊥) → Enters q k
edge_enters q k some = let it = edge_there q k some in (it.0, (number_at place_numbers q k - 1, it.1), it.2)

-- the opener that a token enters
pub opener_there : (g : Nonterminal) (k : Class) → (number_at opener_numbers (number g) k ≡ 0 → ⊥)
    → (s : ℕ) × (slice_get (openers g) (number_at opener_numbers (number g) k - 1) ≡ Some s) × Enters s k
opener_there g k some =
    let it = listed entering (openers g) k (number_at opener_numbers (number g) k) (opener_right g k) some in
    (it.0, it.1, among_enters it.0 k it.2)

pub opener_nowhere : (g : Nonterminal) (k : Class) → number_at opener_numbers (number g) k ≡ 0 → (s : ℕ) → Has (openers g) s → Enters s k → ⊥
opener_nowhere g k e s h n = unlisted entering (openers g) k (number_at opener_numbers (number g) k) (opener_right g k) e s h (enters_among s k n)

-- nothing goes on with a token
pub suffix_nowhere : (g : Nonterminal) (k : Class) → number_at suffix_numbers (number g) k ≡ 0 → (s : ℕ) (y : ℕ) → Has (suffixes g) s → GoesWith s y k → ⊥
suffix_nowhere g k e s y h w =
    unlisted after_corner (suffixes g) k (number_at suffix_numbers (number g) k) (suffix_right g k) e s h
    (subst (λ (o : Option Head). among k (going_on o) ≡ true) (sym w.is) (enters_among (w.cornered).next k w.enters))

-- with a token, and with the token that stands at a place
module _ (cs : List Lexeme) (w : Scope) (s y at : ℕ) where
  pub with_on : (k : Class) → class_at cs w at ≡ Some k → GoesWith s y k → GoesOn cs w s y at
  with_on k e g = record { cornered = g.cornered; is = g.is; takes = g.takes; class = k; token = e; enters = g.enters }

  pub on_with : (k : Class) → class_at cs w at ≡ Some k → GoesOn cs w s y at → GoesWith s y k
  on_with k e g = record {
    cornered = g.cornered;
    is = g.is;
    takes = g.takes;
    enters = subst (λ (c : Class). Enters (g.cornered).next c) (some_is (sym g.token ∙ e)) g.enters;
  }

  pub on_past : class_at cs w at ≡ None → GoesOn cs w s y at → ⊥
  on_past e g = none_not (sym e ∙ g.token)

-- what goes on with the token there goes on
pub with_on_some : (cs : List Lexeme) (w : Scope) (y at : ℕ) (g : Nonterminal) (k : Class) → class_at cs w at ≡ Some k → (o : Option ℕ)
    → IfSome o (λ s. Has (suffixes g) s × GoesWith s y k) → IfSome o (λ s. Has (suffixes g) s × GoesOn cs w s y at)
with_on_some cs w y at g k e None i = i
with_on_some cs w y at g k e (Some s) i = (i.0, with_on cs w s y at k e i.1)

-- what comes from a list at a number
module _ {X : Type 0} (xs : List X) (P : X → Type 0) (n m : ℕ) (same : n ≡ m) (o : Option X) (there : o ≡ slice_get xs (n - 1))
    (it : (x : X) × (slice_get xs (m - 1) ≡ Some x) × P x) where
  at_is : o ≡ Some it.0
  at_is = there ∙ ap (λ (v : ℕ). slice_get xs (v - 1)) same ∙ it.1

  pub at_some : IfSome o (λ x. Has xs x × P x)
  at_some = subst (λ (v : Option X). IfSome v (λ x. Has xs x × P x)) (sym at_is) ((m - 1, it.1), it.2)

  pub at_not_none : o ≡ None → ⊥
  at_not_none e = none_not (sym e ∙ at_is)

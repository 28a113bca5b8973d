-- What the tables have to fulfil, checked over all of their rows.
use Rattle.std.proofs.Common.{◌≡◌, ℕ, zero, suc, ◌+◌, List, [], ◌∷◌, ◌++◌, ◌⊎◌, inl, inr, arith, refl, sym, ◌∙◌, ap, subst, Bool, true, false, not, ◌&&◌, ◌||◌}
use Rattle.std.specs.Prelude.{Option, Some, None, slice_get}
use Rattle.std.proofs.Math.Dec.{eqb}
use Rattle.std.proofs.lemmas.Bool.{eqb-true, and_parts, or_cases, false≢true}
use Rattle.cl_tree.specs.declared.class.Class.{Class}
use Rattle.cl_tree.specs.declared.nonterminal.Nonterminal.{Nonterminal}
use Rattle.cl_tree.specs.declared.grammar.Symbol.{Symbol}
use Rattle.cl_tree.specs.declared.grammar.Symbol.TheVariants.{Token, Node, Entry}
use Rattle.cl_tree.specs.declared.class.Class.TheVariants as cl
use Rattle.cl_tree.specs.declared.nonterminal.Nonterminal.TheVariants as nt
use Rattle.cl_tree.specs.declared.grammar.Separator.{Separator}
use Rattle.cl_expr.specs.declared.table.Edge.{Edge}
use Rattle.cl_expr.specs.declared.table.Head.{Head}
use Rattle.cl_expr.specs.declared.table.Ways.{Ways}
use Rattle.cl_expr.specs.declared.table.Label.{Label}
use Rattle.cl_expr.specs.code.Table.{Place, places, nowhere, place, goal, goals, number, edges, name_of, bars, scoped, flat, flat_goal, is_named, turning, turned, turn, home, corner, kinds, openers, suffixes, firsts, ends, goes, entry_classes, before_else}
use Rattle.cl_tree.specs.Derives.{Has, barred}
use Rattle.cl_expr.specs.code.Parses.{BeginsSymbol, Begins, Enters}
use Rattle.cl_tree.specs.Grammar.{takes, shuns}
use Rattle.cl_expr.specs.code.Looks.{class_number}
use Rattle.cl_expr.proofs.All.{all_goals, numbered_goal, all_classes, numbered_class, same_class_is, same_goal_is}
use Rattle.cl_expr.proofs.Checks.{every, some, pairwise, member, when, is_some, on_some, when_use, not_use, some_true, none_is, none_true, none_not, on_some_use, some_is, every_has, some_at, pairwise_one, has_member, member_left, member_right, member_has, every_member}

abbrev pub among : Class → List Class → Bool
among k ks = member class_number k ks

-- places are numbers
abbrev pub place_number : ℕ → ℕ
place_number q = q

same_place_is : (x y : ℕ) → place_number x ≡ place_number y → x ≡ y
same_place_is x y e = e

abbrev pub kind_in : ℕ → List ℕ → Bool
kind_in z zs = member place_number z zs

abbrev beginners_symbol : Symbol → List Class
beginners_symbol (Token c a) = takes c
beginners_symbol (Node g) = firsts g
beginners_symbol Entry = entry_classes

abbrev pub beginners : Option Separator → Symbol → List Class
beginners None x = beginners_symbol x
beginners (Some b) x = b.class ∷ []

abbrev pub beginners_of : List Edge → List Class
beginners_of [] = []
beginners_of (e ∷ es) = beginners e.before e.symbol ++ beginners_of es

abbrev pub entering : ℕ → List Class
entering q = beginners_of (edges q)

abbrev is_else : Class → Bool
is_else k = eqb (class_number k) (class_number cl.Else)

abbrev goes_of : Symbol → List Class
goes_of (Token c a) = []
goes_of (Node g) = goes g
goes_of Entry = []

abbrev apart : List Class → List Class → Bool
apart xs ys = every (λ k. not (among k ys)) xs

abbrev within : List Class → List Class → Bool
within xs ys = every (λ k. among k ys) xs

abbrev meets : List ℕ → List ℕ → Bool
meets xs ys = some (λ y. kind_in y ys) xs

-- of each edge and each place that it may lead to
abbrev pub after : (Edge → ℕ → Bool) → Edge → Option Ways → Bool
after f e None = f e e.next
after f e (Some w) = f e w.named && f e w.other

abbrev pub steps : (Edge → ℕ → Bool) → ℕ → Bool
steps f q = every (λ e. after f e (turning e.next)) (edges q)

-- the kinds of a symbol's parts
abbrev pub Way : Symbol → ℕ → Type 0
Way (Token c a) y = y ≡ 0
Way (Node g) y = Has (kinds g) y
Way Entry y = Unit {0}

symbol_among : (s : Symbol) (k : Class) → BeginsSymbol s k → among k (beginners_symbol s) ≡ true
symbol_among (Token c a) k b = has_member class_number k (takes c) b.0 b.1
symbol_among (Node g) k b = has_member class_number k (firsts g) b.0 b.1
symbol_among Entry k b = has_member class_number k entry_classes b.0 b.1

pub begins_among : (b : Option Separator) (s : Symbol) (k : Class) → Begins b s k → among k (beginners b s) ≡ true
begins_among None s k b = symbol_among s k b
begins_among (Some o) s k b = has_member class_number k (o.class ∷ []) 0 (ap Some b)

enters_of : (es : List Edge) (k : Class) (i : ℕ) (e : Edge) → slice_get es i ≡ Some e → Begins e.before e.symbol k → among k (beginners_of es) ≡ true
enters_of [] k i e h b = absurd (not_use true (cc) refl)
enters_of (x ∷ es) k zero e h b =
    member_left class_number k (beginners x.before x.symbol) (beginners_of es) (begins_among x.before x.symbol k (subst (λ (v : Edge). Begins v.before v.symbol k) (sym (some_is h)) b))
enters_of (x ∷ es) k (suc i) e h b = member_right class_number k (beginners x.before x.symbol) (beginners_of es) (enters_of es k i e h b)

pub enters_among : (q : ℕ) (k : Class) → Enters q k → among k (entering q) ≡ true
enters_among q k n = enters_of (edges q) k n.1.0 n.0 n.1.1 n.2

pub among_has : (k : Class) (ks : List Class) → among k ks ≡ true → Has ks k
among_has k ks m = member_has class_number same_class_is k ks m

pub has_among : (k : Class) (ks : List Class) → Has ks k → among k ks ≡ true
has_among k ks h = has_member class_number k ks h.0 h.1

apart_use : (xs ys : List Class) (k : Class) → apart xs ys ≡ true → among k xs ≡ true → among k ys ≡ true → ⊥
apart_use xs ys k t a b = not_use (among k ys) (every_member class_number same_class_is (λ v. not (among v ys)) xs t k a) b

within_use : (xs ys : List Class) (k : Class) → within xs ys ≡ true → among k xs ≡ true → Has ys k
within_use xs ys k t a = among_has k ys (every_member class_number same_class_is (λ v. among v ys) xs t k a)

meets_use : (xs ys : List ℕ) (z : ℕ) → Has xs z → Has ys z → meets xs ys ≡ true
meets_use xs ys z a b = some_at (λ y. kind_in y ys) xs a.0 z a.1 (has_member place_number z ys b.0 b.1)

after_use : (f : Edge → ℕ → Bool) (e : Edge) (o : Option Ways) (b : Bool) → after f e o ≡ true → f e (turned o e.next b) ≡ true
after_use f e None b t = t
after_use f e (Some w) true t = (and_parts (f e w.named) (f e w.other) t).0
after_use f e (Some w) false t = (and_parts (f e w.named) (f e w.other) t).1

pub steps_use : (f : Edge → ℕ → Bool) (q : ℕ) → steps f q ≡ true → (e : Edge) (y : ℕ) → Has (edges q) e → f e (turn e.next y) ≡ true
unfolding turn
steps_use f q t e y h = after_use f e (turning e.next) (is_named y) (every_has (λ v. after f v (turning v.next)) (edges q) t e h)

-- the checks
abbrev c_apart : ℕ → Bool
c_apart q = pairwise (λ e d. apart (beginners e.before e.symbol) (beginners d.before d.symbol)) (edges q)

abbrev c_more : ℕ → Bool
c_more q = when (is_some (name_of q)) (every (λ k. among k (bars q) || among k (ends q)) (entering q))

abbrev c_on : ℕ → Bool
c_on q = steps (λ e n. within (ends n) (ends q)) q

abbrev c_held : ℕ → Bool
c_held q = steps (λ e n. when (is_some (name_of n)) (every (λ k. (among k (bars n) && not (is_else k)) || among k (ends q)) (goes_of e.symbol))) q

abbrev c_shut : ℕ → Bool
c_shut q = when (not (is_some (corner q))) (steps (λ e n. apart (entering n) (goes_of e.symbol)) q)

abbrev c_homes : ℕ → Bool
c_homes q = steps (λ e n. eqb (place_number (home n)) (place_number (home q))) q

abbrev c_plain : ℕ → Bool
c_plain q = steps (λ e n. not (is_some (corner n))) q

abbrev c_unnamed : ℕ → Bool
c_unnamed q = not (is_some (name_of (home q)))

abbrev symbol_is : Symbol → Nonterminal → Bool
symbol_is (Token c a) g = false
symbol_is (Node b) g = eqb (number b) (number g)
symbol_is Entry g = false

abbrev lone : Head → List Edge → Bool
lone c [] = false
lone c (e ∷ []) = symbol_is e.symbol c.goal && (eqb (place_number e.next) (place_number c.next) && not (is_some e.before))
lone c (e ∷ d ∷ es) = false

abbrev c_corner : ℕ → Bool
c_corner s = on_some (λ c. lone c (edges s) && (not (is_some (turning c.next)) && (not (is_some (name_of c.next)) && (not (is_some (corner c.next)) && eqb (place_number (home c.next)) (place_number (home s)))))) (corner s)

abbrev c_left : ℕ → Bool
c_left s = on_some (λ c. every (λ y. apart (entering c.next) (ends (home y))) (kinds c.goal)) (corner s)

-- before a production that is read later nothing is shunned
abbrev c_open : ℕ → Bool
c_open s = on_some (λ c. not (is_some (shuns c.goal))) (corner s)

abbrev is_empty : List Class → Bool
is_empty [] = true
is_empty (k ∷ ks) = false

-- what holds no block has no part that holds one, and nothing else is read before its production is known
abbrev pub symbol_flat : Symbol → Bool
symbol_flat (Token c a) = true
symbol_flat (Node g) = flat_goal g
symbol_flat Entry = false

abbrev c_flat : ℕ → Bool
c_flat q = when (flat q) (steps (λ e n. symbol_flat e.symbol && flat n) q)

abbrev c_flat_left : ℕ → Bool
c_flat_left s = on_some (λ c. flat_goal c.goal) (corner s)

abbrev c_flat_goal : Nonterminal → Bool
c_flat_goal g = when (flat_goal g) (every (λ z. flat (home z)) (kinds g))

-- nothing goes on from a block, and it begins with a token
abbrev c_scoped : ℕ → Bool
c_scoped z = when (scoped z) (is_empty (ends (home z)) && not (is_some (corner (home z))))

-- an `else` is barred at one place alone
abbrev c_else : ℕ → Bool
c_else q = when (among cl.Else (bars q)) (eqb (place_number q) before_else)

abbrev reaches : Nonterminal → ℕ → Bool
reaches g s = kind_in s (openers g) || kind_in s (suffixes g)

abbrev c_top : Nonterminal → Bool
c_top g = every (λ z. within (ends (home z)) (goes g)) (kinds g)

abbrev c_firsts : Nonterminal → Bool
c_firsts g = every (λ z. every (λ k. among k (barred (shuns g)) || among k (firsts g)) (entering (home z))) (kinds g)

abbrev c_reach : Nonterminal → Bool
c_reach g = every (λ z. reaches g (home z)) (kinds g)

abbrev c_reach_left : Nonterminal → Bool
c_reach_left g = every (λ s. on_some (λ c. every (λ z. reaches g (home z)) (kinds c.goal)) (corner s)) (suffixes g)

abbrev c_openers : Nonterminal → Bool
c_openers g = pairwise (λ s d. apart (entering s) (entering d)) (openers g)

abbrev c_opener : Nonterminal → Bool
c_opener g = every (λ s. eqb (place_number (home s)) (place_number s) && not (is_some (corner s))) (openers g)

abbrev c_suffix : Nonterminal → Bool
c_suffix g = every (λ s. eqb (place_number (home s)) (place_number s) && is_some (corner s)) (suffixes g)

abbrev c_suffixes : Nonterminal → Bool
c_suffixes g = pairwise (λ s d. on_some (λ a. on_some (λ b. when (meets (kinds a.goal) (kinds b.goal)) (apart (entering a.next) (entering b.next))) (corner d)) (corner s)) (suffixes g)

abbrev c_goes : Nonterminal → Bool
c_goes g = every (λ s. on_some (λ c. when (meets (kinds c.goal) (kinds g)) (within (entering c.next) (goes g))) (corner s)) (suffixes g)

abbrev c_goal : Nonterminal → Bool
c_goal g = c_top g && (c_firsts g && (c_reach g && (c_reach_left g && (c_openers g && (c_opener g && (c_suffix g && (c_suffixes g && c_goes g)))))))

-- the number of a place, and the numbers of all of them
abbrev pub numbers : ℕ → List Place → List ℕ
numbers n [] = []
numbers n (p ∷ ps) = n ∷ numbers (n + 1) ps

abbrev pub every_place : (ℕ → Bool) → Bool
every_place f = every f (numbers 0 places)

numbers_have : (ps : List Place) (n i : ℕ) (p : Place) → slice_get ps i ≡ Some p → Has (numbers n ps) (n + i)
numbers_have [] n i p e = absurd (none_not e)
numbers_have (x ∷ ps) n zero p e = (0, ap Some (omega arith))
numbers_have (x ∷ ps) n (suc i) p e =
    let h = numbers_have ps (n + 1) i p e in
    let same : (n + 1) + i ≡ n + suc i = omega arith in
    (suc h.0, h.1 ∙ ap Some same)

-- an item of a block begins with any token but `}`, and nothing goes on from it
entries_all : every (λ k. among k entry_classes || eqb (class_number k) (class_number cl.RightBrace)) all_classes ≡ true
unfolding entry_classes
entries_all = refl

entries_open : not (among cl.RightBrace entry_classes) ≡ true
unfolding entry_classes
entries_open = refl

goals_entries : every (λ g. within (firsts g) entry_classes) all_goals ≡ true
unfolding firsts goal goals entry_classes
goals_entries = refl

-- nothing goes on from a statement
statement_goes : goes nt.Statement ≡ []
unfolding goes goal goals
statement_goes = refl

entry_goes : goes nt.BlockItem ≡ []
unfolding goes goal goals
entry_goes = refl

places_apart : every_place c_apart ≡ true
unfolding places place edges firsts goal goals entry_classes
places_apart = refl

places_more : every_place c_more ≡ true
unfolding places place edges name_of bars ends firsts goal goals entry_classes
places_more = refl

places_on : every_place c_on ≡ true
unfolding places place edges turning ends
places_on = refl

places_held : every_place c_held ≡ true
unfolding places place edges turning name_of bars ends goes goal goals
places_held = refl

places_shut : every_place c_shut ≡ true
unfolding places place edges turning corner firsts goes goal goals entry_classes
places_shut = refl

places_homes : every_place c_homes ≡ true
unfolding places place edges turning home
places_homes = refl

places_plain : every_place c_plain ≡ true
unfolding places place edges turning corner
places_plain = refl

places_unnamed : every_place c_unnamed ≡ true
unfolding places place name_of home
places_unnamed = refl

places_corner : every_place c_corner ≡ true
unfolding places place edges turning name_of corner home
places_corner = refl

places_left : every_place c_left ≡ true
unfolding places place edges corner home ends firsts kinds goal goals entry_classes
places_left = refl

places_open : every_place c_open ≡ true
unfolding places place corner shuns
places_open = refl

places_else : every_place c_else ≡ true
unfolding places place bars
places_else = refl

places_scoped : every_place c_scoped ≡ true
unfolding places place scoped home ends corner
places_scoped = refl

places_flat : every_place c_flat ≡ true
unfolding places place edges turning flat flat_goal goal goals
places_flat = refl

places_flat_left : every_place c_flat_left ≡ true
unfolding places place corner flat_goal goal goals
places_flat_left = refl

goals_flat : every c_flat_goal all_goals ≡ true
unfolding places place home flat kinds flat_goal goal goals
goals_flat = refl

goals_checked : every c_goal all_goals ≡ true
unfolding shuns places place edges name_of bars is_named turning turn home corner kinds openers suffixes firsts ends goes goal goals entry_classes
goals_checked = refl

-- a place that the table doesn't have is nowhere
abbrev Everywhere : (ℕ → Bool) → Type 0
Everywhere f = (q : ℕ) → f q ≡ true

pub either : (q : ℕ) → (place q ≡ nowhere) ⊎ Has (numbers 0 places) q
unfolding place
either q = go (slice_get places q) refl
  where
    go : (o : Option Place) → slice_get places q ≡ o → (place q ≡ nowhere) ⊎ Has (numbers 0 places) q
    go None e = inl (rw e refl)
    go (Some p) e = inr (let h = numbers_have places 0 q p e in let same : 0 + q ≡ q = omega arith in (h.0, h.1 ∙ ap Some same))

-- what a place is as far as the checks go
record Looks (q : ℕ) : Type 0 where
  edges_none : edges q ≡ []
  label_none : name_of q ≡ None
  bars_none : bars q ≡ []
  corner_none : corner q ≡ None
  home_first : home q ≡ 0
  scoped_false : scoped q ≡ false

looks : (q : ℕ) → place q ≡ nowhere → Looks q
unfolding edges name_of bars corner home scoped
looks q e = record { edges_none = ap (λ (p : Place). p.edges) e; label_none = ap (λ (p : Place). p.label) e; bars_none = ap (λ (p : Place). barred p.bar) e; corner_none = ap (λ (p : Place). p.corner) e; home_first = ap (λ (p : Place). p.home) e; scoped_false = ap (λ (p : Place). p.scoped) e }

first_unnamed : name_of 0 ≡ None
unfolding places place name_of
first_unnamed = refl

and_first : (a b : Bool) → (a && b) ≡ true → a ≡ true
and_first a b t = (and_parts a b t).0

and_second : (a b : Bool) → (a && b) ≡ true → b ≡ true
and_second a b t = (and_parts a b t).1

record PlaceFacts (q : ℕ) : Type 0 where
  apart : c_apart q ≡ true
  more : c_more q ≡ true
  on : c_on q ≡ true
  held : c_held q ≡ true
  shut : c_shut q ≡ true
  homes : c_homes q ≡ true
  plain : c_plain q ≡ true
  unnamed : c_unnamed q ≡ true
  corner : c_corner q ≡ true
  left : c_left q ≡ true
  opened : c_open q ≡ true
  scoped : c_scoped q ≡ true
  elses : c_else q ≡ true
  flat : c_flat q ≡ true
  flat_left : c_flat_left q ≡ true

when_always : (b : Bool) → when b true ≡ true
when_always true = refl
when_always false = refl

place_facts : (q : ℕ) → PlaceFacts q
place_facts q = elim (either q) [
  | inl none ↦ (let l = looks q none in record {
    apart = rw l.edges_none refl;
    more = rw l.label_none refl;
    on = rw l.edges_none refl;
    held = rw l.edges_none refl;
    shut = rw (l.corner_none, l.edges_none) refl;
    homes = rw l.edges_none refl;
    plain = rw l.edges_none refl;
    unnamed = rw (l.home_first, first_unnamed) refl;
    corner = rw l.corner_none refl;
    left = rw l.corner_none refl;
    opened = rw l.corner_none refl;
    scoped = rw l.scoped_false refl;
    elses = rw l.bars_none refl;
    flat = rw l.edges_none (when_always (flat q));
    flat_left = rw l.corner_none refl;
  })
  | inr h ↦ record {
    apart = every_has c_apart (numbers 0 places) places_apart q h;
    more = every_has c_more (numbers 0 places) places_more q h;
    on = every_has c_on (numbers 0 places) places_on q h;
    held = every_has c_held (numbers 0 places) places_held q h;
    shut = every_has c_shut (numbers 0 places) places_shut q h;
    homes = every_has c_homes (numbers 0 places) places_homes q h;
    plain = every_has c_plain (numbers 0 places) places_plain q h;
    unnamed = every_has c_unnamed (numbers 0 places) places_unnamed q h;
    corner = every_has c_corner (numbers 0 places) places_corner q h;
    left = every_has c_left (numbers 0 places) places_left q h;
    opened = every_has c_open (numbers 0 places) places_open q h;
    scoped = every_has c_scoped (numbers 0 places) places_scoped q h;
    elses = every_has c_else (numbers 0 places) places_else q h;
    flat = every_has c_flat (numbers 0 places) places_flat q h;
    flat_left = every_has c_flat_left (numbers 0 places) places_flat_left q h;
  }
]

record GoalFacts (g : Nonterminal) : Type 0 where
  top : c_top g ≡ true
  firsts : c_firsts g ≡ true
  reach : c_reach g ≡ true
  reach_left : c_reach_left g ≡ true
  openers : c_openers g ≡ true
  opener : c_opener g ≡ true
  suffix : c_suffix g ≡ true
  suffixes : c_suffixes g ≡ true
  goes : c_goes g ≡ true

goal_facts : (g : Nonterminal) → GoalFacts g
goal_facts g =
    let a = and_parts (c_top g) _ (every_has c_goal all_goals goals_checked g (number g, numbered_goal g)) in
    let b = and_parts (c_firsts g) _ a.1 in
    let c = and_parts (c_reach g) _ b.1 in
    let d = and_parts (c_reach_left g) _ c.1 in
    let e = and_parts (c_openers g) _ d.1 in
    let f = and_parts (c_opener g) _ e.1 in
    let i = and_parts (c_suffix g) _ f.1 in
    let h = and_parts (c_suffixes g) (c_goes g) i.1 in
    record { top = a.0; firsts = b.0; reach = c.0; reach_left = d.0; openers = e.0; opener = f.0; suffix = i.0; suffixes = h.0; goes = h.1 }

-- one token begins one thing at a place
pub one_edge : (q : ℕ) (e d : Edge) (k : Class) → Has (edges q) e → Begins e.before e.symbol k → Has (edges q) d → Begins d.before d.symbol k → e ≡ d
one_edge q e d k he be hd bd =
    pairwise_one (λ x y. apart (beginners x.before x.symbol) (beginners y.before y.symbol)) (λ x. Begins x.before x.symbol k)
    (λ x y t a b. apart_use (beginners x.before x.symbol) (beginners y.before y.symbol) k t (begins_among x.before x.symbol k a) (begins_among y.before y.symbol k b))
    (edges q) (place_facts q).apart he.0 hd.0 e d he.1 hd.1 be bd

-- a token that goes on where a production may end is known to
pub more : (q : ℕ) (k : Class) (n : Label) → Enters q k → name_of q ≡ Some n → (Has (bars q) k → ⊥) → Has (ends q) k
more q k n m e b =
    let t = when_use (is_some (name_of q)) _ (place_facts q).more (some_true (name_of q) n e) in
    elim (or_cases (among k (bars q)) (among k (ends q)) (every_member class_number same_class_is (λ v. among v (bars q) || among v (ends q)) (entering q) t k (enters_among q k m))) [
      | inl x ↦ absurd (b (among_has k (bars q) x))
      | inr y ↦ among_has k (ends q) y
    ]

pub on : (q : ℕ) (e : Edge) (y : ℕ) (k : Class) → Has (edges q) e → Way e.symbol y → Has (ends (turn e.next y)) k → Has (ends q) k
on q e y k h w has =
    within_use (ends (turn e.next y)) (ends q) k (steps_use (λ d n. within (ends n) (ends q)) q (place_facts q).on e y h) (has_among k (ends (turn e.next y)) has)

-- a token that goes on from a production's last part is known to
pub held : (q : ℕ) (e : Edge) (g : Nonterminal) (y : ℕ) (k : Class) (n : Label) → Has (edges q) e → e.symbol ≡ Node g → Has (kinds g) y
    → name_of (turn e.next y) ≡ Some n → (Has (bars (turn e.next y)) k → k ≡ cl.Else) → Has (goes g) k → Has (ends q) k
held q e g y k n h s w m b has =
    let f = λ (d : Edge) (v : ℕ). when (is_some (name_of v)) (every (λ u. (among u (bars v) && not (is_else u)) || among u (ends q)) (goes_of d.symbol)) in
    let t = when_use (is_some (name_of (turn e.next y))) _ (steps_use f q (place_facts q).held e y h) (some_true (name_of (turn e.next y)) n m) in
    let t' : every (λ u. (among u (bars (turn e.next y)) && not (is_else u)) || among u (ends q)) (goes g) ≡ true
    = subst (λ (x : Symbol). every (λ u. (among u (bars (turn e.next y)) && not (is_else u)) || among u (ends q)) (goes_of x) ≡ true) s t in
    elim (or_cases (among k (bars (turn e.next y)) && not (is_else k)) (among k (ends q))
    (every_has (λ u. (among u (bars (turn e.next y)) && not (is_else u)) || among u (ends q)) (goes g) t' k has)) [
      | inl x ↦ (
          let o = and_parts (among k (bars (turn e.next y))) (not (is_else k)) x in
          let same : k ≡ cl.Else = b (among_has k (bars (turn e.next y)) o.0) in
          absurd (not_use (is_else k) o.1 (subst (λ (u : Class). is_else u ≡ true) (sym same) refl)))
      | inr z ↦ among_has k (ends q) z
    ]

-- the token after a part within a production doesn't go on from that part
pub shut : (q : ℕ) (e : Edge) (g : Nonterminal) (y : ℕ) (k : Class) → corner q ≡ None → Has (edges q) e → e.symbol ≡ Node g → Has (kinds g) y
    → Enters (turn e.next y) k → Has (goes g) k → ⊥
shut q e g y k none h s w n has =
    let f = λ (d : Edge) (v : ℕ). apart (entering v) (goes_of d.symbol) in
    let t = steps_use f q (when_use (not (is_some (corner q))) _ (place_facts q).shut (none_true (corner q) none)) e y h in
    let t' : apart (entering (turn e.next y)) (goes g) ≡ true = subst (λ (x : Symbol). apart (entering (turn e.next y)) (goes_of x) ≡ true) s t in
    apart_use (entering (turn e.next y)) (goes g) k t' (enters_among (turn e.next y) k n) (has_among k (goes g) has)

pub home_next : (q : ℕ) (e : Edge) (y : ℕ) → Has (edges q) e → Way e.symbol y → home (turn e.next y) ≡ home q
home_next q e y h w =
    same_place_is (home (turn e.next y)) (home q) (eqb-true _ _ (steps_use (λ d v. eqb (place_number (home v)) (place_number (home q))) q (place_facts q).homes e y h))

pub plain_next : (q : ℕ) (e : Edge) (y : ℕ) → Has (edges q) e → Way e.symbol y → corner (turn e.next y) ≡ None
plain_next q e y h w = none_is (corner (turn e.next y)) (steps_use (λ d v. not (is_some (corner v))) q (place_facts q).plain e y h)

pub no_name : (q : ℕ) (n : Label) → name_of (home q) ≡ Some n → ⊥
no_name q n e = not_use (is_some (name_of (home q))) (place_facts q).unnamed (some_true (name_of (home q)) n e)

-- a production that begins with a left part
pub record Cornered (s : ℕ) (c : Head) : Type 0 where
  pub edge : (e : Edge) → Has (edges s) e → (e.symbol ≡ Node c.goal) × (e.next ≡ c.next) × (e.before ≡ None)
  pub some_edge : (e : Edge) × Has (edges s) e × (e.symbol ≡ Node c.goal) × (e.next ≡ c.next) × (e.before ≡ None)
  pub turn : (y : ℕ) → turn c.next y ≡ c.next
  pub unnamed : name_of c.next ≡ None
  pub plain : corner c.next ≡ None
  pub home : home c.next ≡ home s

symbol_goal : (s : Symbol) (g : Nonterminal) → symbol_is s g ≡ true → s ≡ Node g
symbol_goal (Token c a) g t = absurd (false≢true t)
symbol_goal (Node b) g t = ap Node (same_goal_is b g (eqb-true (number b) (number g) t))
symbol_goal Entry g t = absurd (false≢true t)

Lone : Head → Edge → Type 0
Lone c e = (e.symbol ≡ Node c.goal) × (e.next ≡ c.next) × (e.before ≡ None)

lone_edge : (c : Head) (es : List Edge) → lone c es ≡ true → (i : ℕ) (e : Edge) → slice_get es i ≡ Some e → (e.symbol ≡ Node c.goal) × (e.next ≡ c.next) × (e.before ≡ None)
lone_edge c [] t i e h = absurd (false≢true t)
lone_edge c (d ∷ []) t zero e h =
    let p = and_parts (symbol_is d.symbol c.goal) _ t in
    let r = and_parts (eqb (place_number d.next) (place_number c.next)) (not (is_some d.before)) p.1 in
    let same : d ≡ e = some_is h in
    subst (λ (x : Edge). (x.symbol ≡ Node c.goal) × (x.next ≡ c.next) × (x.before ≡ None)) same
    (symbol_goal d.symbol c.goal p.0, same_place_is d.next c.next (eqb-true (place_number d.next) (place_number c.next) r.0), none_is d.before r.1)
lone_edge c (d ∷ []) t (suc i) e h = absurd (cc)
lone_edge c (d ∷ f ∷ es) t i e h = absurd (false≢true t)

lone_some : (c : Head) (es : List Edge) → lone c es ≡ true → (e : Edge) × Has es e
lone_some c [] t = absurd (false≢true t)
lone_some c (d ∷ []) t = (d, (0, refl))
lone_some c (d ∷ f ∷ es) t = absurd (false≢true t)

turn_plain : (q y : ℕ) → turning q ≡ None → turn q y ≡ q
unfolding turn
turn_plain q y e = rw e refl

pub cornered : (s : ℕ) (c : Head) → corner s ≡ Some c → Cornered s c
cornered s c e =
    let f = λ (d : Head). lone d (edges s) && (not (is_some (turning d.next)) && (not (is_some (name_of d.next)) && (not (is_some (corner d.next)) && eqb (place_number (home d.next)) (place_number (home s))))) in
    let t : f c ≡ true = on_some_use f (corner s) c e (place_facts s).corner in
    let a = and_parts (lone c (edges s)) _ t in
    let b = and_parts (not (is_some (turning c.next))) _ a.1 in
    let d = and_parts (not (is_some (name_of c.next))) _ b.1 in
    let g = and_parts (not (is_some (corner c.next))) (eqb (place_number (home c.next)) (place_number (home s))) d.1 in
    let l = lone_some c (edges s) a.0 in
    record {
      edge = λ x h. lone_edge c (edges s) a.0 h.0 x h.1;
      some_edge = (let o = lone_edge c (edges s) a.0 l.1.0 l.0 l.1.1 in (l.0, l.1, o.0, o.1, o.2));
      turn = λ y. turn_plain c.next y (none_is (turning c.next) b.0);
      unnamed = none_is (name_of c.next) d.0;
      plain = none_is (corner c.next) g.0;
      home = same_place_is (home c.next) (home s) (eqb-true (place_number (home c.next)) (place_number (home s)) g.1);
    }

-- nor from a left part
pub left_halts : (s : ℕ) (c : Head) (y : ℕ) (k : Class) → corner s ≡ Some c → Has (kinds c.goal) y → Enters c.next k → Has (ends (home y)) k → ⊥
left_halts s c y k e w n has =
    let f = λ (d : Head). every (λ v. apart (entering d.next) (ends (home v))) (kinds d.goal) in
    let t : f c ≡ true = on_some_use f (corner s) c e (place_facts s).left in
    apart_use (entering c.next) (ends (home y)) k (every_has (λ v. apart (entering c.next) (ends (home v))) (kinds c.goal) t y w) (enters_among c.next k n) (has_among k (ends (home y)) has)

pub top : (g : Nonterminal) (z : ℕ) (k : Class) → Has (kinds g) z → Has (ends (home z)) k → Has (goes g) k
top g z k h has =
    within_use (ends (home z)) (goes g) k (every_has (λ v. within (ends (home v)) (goes g)) (kinds g) (goal_facts g).top z h) (has_among k (ends (home z)) has)

pub firsts_have : (g : Nonterminal) (z : ℕ) (k : Class) → Has (kinds g) z → Enters (home z) k → (Has (barred (shuns g)) k → ⊥) → Has (firsts g) k
firsts_have g z k h n begun =
    let t = every_has (λ v. every (λ k. among k (barred (shuns g)) || among k (firsts g)) (entering (home v))) (kinds g) (goal_facts g).firsts z h in
    elim (or_cases (among k (barred (shuns g))) (among k (firsts g)) (every_member class_number same_class_is (λ v. among v (barred (shuns g)) || among v (firsts g)) (entering (home z)) t k (enters_among (home z) k n))) [
      | inl x ↦ absurd (begun (among_has k (barred (shuns g)) x))
      | inr y ↦ among_has k (firsts g) y
    ]

-- a production that begins with a left part: that part shuns nothing, and the node is no block
pub left_open : (s : ℕ) (c : Head) → corner s ≡ Some c → shuns c.goal ≡ None
left_open s c e = none_is (shuns c.goal) (on_some_use (λ d. not (is_some (shuns d.goal))) (corner s) c e (place_facts s).opened)

pub entry_class : (k : Class) → (k ≡ cl.RightBrace → ⊥) → Has entry_classes k
entry_class k not =
    elim (or_cases (among k entry_classes) (eqb (class_number k) (class_number cl.RightBrace))
    (every_has (λ k. among k entry_classes || eqb (class_number k) (class_number cl.RightBrace)) all_classes entries_all k (class_number k, numbered_class k))) [
      | inl a ↦ among_has k entry_classes a
      | inr b ↦ absurd (not (same_class_is k cl.RightBrace (eqb-true (class_number k) (class_number cl.RightBrace) b)))
    ]

pub entry_open : (k : Class) → Has entry_classes k → k ≡ cl.RightBrace → ⊥
entry_open k has e = not_use (among cl.RightBrace entry_classes) entries_open (has_among cl.RightBrace entry_classes (subst (Has entry_classes) e has))

pub firsts_entry : (g : Nonterminal) (k : Class) → Has (firsts g) k → Has entry_classes k
firsts_entry g k has =
    within_use (firsts g) entry_classes k (every_has (λ g. within (firsts g) entry_classes) all_goals goals_entries g (number g, numbered_goal g)) (has_among k (firsts g) has)

pub entry_stops : (k : Class) → Has (goes nt.BlockItem) k → ⊥
entry_stops k has = none_not (subst (λ (v : List Class). slice_get v has.0 ≡ Some k) entry_goes has.1)

pub statement_stops : (k : Class) → Has (goes nt.Statement) k → ⊥
statement_stops k has = none_not (subst (λ (v : List Class). slice_get v has.0 ≡ Some k) statement_goes has.1)

pub left_flat : (s : ℕ) (c : Head) → corner s ≡ Some c → flat_goal c.goal ≡ true
left_flat s c e = on_some_use (λ d. flat_goal d.goal) (corner s) c e (place_facts s).flat_left

pub flat_kind : (g : Nonterminal) (z : ℕ) → flat_goal g ≡ true → Has (kinds g) z → flat (home z) ≡ true
flat_kind g z is h =
    every_has (λ v. flat (home v)) (kinds g) (when_use (flat_goal g) _ (every_has c_flat_goal all_goals goals_flat g (number g, numbered_goal g)) is) z h

pub flat_edge : (q : ℕ) (e : Edge) (y : ℕ) → flat q ≡ true → Has (edges q) e → (symbol_flat e.symbol ≡ true) × (flat (turn e.next y) ≡ true)
flat_edge q e y is h =
    and_parts (symbol_flat e.symbol) (flat (turn e.next y)) (steps_use (λ d n. symbol_flat d.symbol && flat n) q (when_use (flat q) _ (place_facts q).flat is) e y h)

bool_cases : (b : Bool) → (b ≡ true) ⊎ (b ≡ false)
bool_cases true = inl refl
bool_cases false = inr refl

empty_none : (ks : List Class) → is_empty ks ≡ true → (k : Class) → Has ks k → ⊥
empty_none [] t k h = none_not h.1
empty_none (x ∷ ks) t k h = false≢true t

scoped_facts : (z : ℕ) → scoped z ≡ true → (is_empty (ends (home z)) ≡ true) × (not (is_some (corner (home z))) ≡ true)
scoped_facts z is = and_parts (is_empty (ends (home z))) (not (is_some (corner (home z)))) (when_use (scoped z) _ (place_facts z).scoped is)

pub cornered_unscoped : (z : ℕ) (c : Head) → corner (home z) ≡ Some c → scoped z ≡ false
cornered_unscoped z c e = elim (bool_cases (scoped z)) [
  | inl t ↦ absurd (none_not (sym (none_is (corner (home z)) (scoped_facts z t).1) ∙ e))
  | inr f ↦ f
]

pub scoped_ends : (z : ℕ) (k : Class) → scoped z ≡ true → Has (ends (home z)) k → ⊥
scoped_ends z k is has = empty_none (ends (home z)) (scoped_facts z is).0 k has

-- the productions of a nonterminal's left end
abbrev pub Reaches : Nonterminal → ℕ → Type 0
Reaches g s = Has (openers g) s ⊎ Has (suffixes g) s

reaches_use : (g : Nonterminal) (s : ℕ) → reaches g s ≡ true → Reaches g s
reaches_use g s t = elim (or_cases (kind_in s (openers g)) (kind_in s (suffixes g)) t) [
  | inl a ↦ inl (member_has place_number same_place_is s (openers g) a)
  | inr b ↦ inr (member_has place_number same_place_is s (suffixes g) b)
]

pub reach : (g : Nonterminal) (z : ℕ) → Has (kinds g) z → Reaches g (home z)
reach g z h = reaches_use g (home z) (every_has (λ v. reaches g (home v)) (kinds g) (goal_facts g).reach z h)

pub reach_left : (g : Nonterminal) (s : ℕ) (c : Head) (z : ℕ) → Has (suffixes g) s → corner s ≡ Some c → Has (kinds c.goal) z → Reaches g (home z)
reach_left g s c z h e w =
    let f = λ (d : Head). every (λ v. reaches g (home v)) (kinds d.goal) in
    let t : f c ≡ true = on_some_use f (corner s) c e (every_has (λ v. on_some f (corner v)) (suffixes g) (goal_facts g).reach_left s h) in
    reaches_use g (home z) (every_has (λ v. reaches g (home v)) (kinds c.goal) t z w)

pub one_opener : (g : Nonterminal) (s d : ℕ) (k : Class) → Has (openers g) s → Enters s k → Has (openers g) d → Enters d k → s ≡ d
one_opener g s d k hs ns hd nd =
    pairwise_one (λ x y. apart (entering x) (entering y)) (λ x. Enters x k)
    (λ x y t a b. apart_use (entering x) (entering y) k t (enters_among x k a) (enters_among y k b))
    (openers g) (goal_facts g).openers hs.0 hd.0 s d hs.1 hd.1 ns nd

pub opener : (g : Nonterminal) (s : ℕ) → Has (openers g) s → (home s ≡ s) × (corner s ≡ None)
opener g s h =
    let t = and_parts _ (not (is_some (corner s))) (every_has (λ v. eqb (place_number (home v)) (place_number v) && not (is_some (corner v))) (openers g) (goal_facts g).opener s h) in
    (same_place_is (home s) s (eqb-true (place_number (home s)) (place_number s) t.0), none_is (corner s) t.1)

some_corner : (s : ℕ) → is_some (corner s) ≡ true → (c : Head) × (corner s ≡ Some c)
some_corner s t = go (corner s) t
  where
    go : (o : Option Head) → is_some o ≡ true → (c : Head) × (o ≡ Some c)
    go None t = absurd (false≢true t)
    go (Some c) t = (c, refl)

pub suffix : (g : Nonterminal) (s : ℕ) → Has (suffixes g) s → (home s ≡ s) × ((c : Head) × (corner s ≡ Some c))
suffix g s h =
    let t = and_parts _ (is_some (corner s)) (every_has (λ v. eqb (place_number (home v)) (place_number v) && is_some (corner v)) (suffixes g) (goal_facts g).suffix s h) in
    (same_place_is (home s) s (eqb-true (place_number (home s)) (place_number s) t.0), some_corner s t.1)

-- a production that goes on from a left part of a kind, by a token
pub record Goes (y : ℕ) (k : Class) (s : ℕ) : Type 0 where
  pub head : Head
  pub is : corner s ≡ Some head
  pub takes : Has (kinds head.goal) y
  pub enters : Enters head.next k

abbrev pair : Head → Head → Bool
pair a b = when (meets (kinds a.goal) (kinds b.goal)) (apart (entering a.next) (entering b.next))

abbrev pair_of : ℕ → ℕ → Bool
pair_of s d = on_some (λ a. on_some (λ b. when (meets (kinds a.goal) (kinds b.goal)) (apart (entering a.next) (entering b.next))) (corner d)) (corner s)

no_pair : (y : ℕ) (k : Class) (s d : ℕ) → pair_of s d ≡ true → Goes y k s → Goes y k d → ⊥
no_pair y k s d t a b =
    let u : on_some (pair a.head) (corner d) ≡ true = on_some_use (λ x. on_some (pair x) (corner d)) (corner s) a.head a.is t in
    let v : pair a.head b.head ≡ true = on_some_use (pair a.head) (corner d) b.head b.is u in
    let w = when_use (meets (kinds a.head.goal) (kinds b.head.goal)) _ v (meets_use (kinds a.head.goal) (kinds b.head.goal) y a.takes b.takes) in
    apart_use (entering a.head.next) (entering b.head.next) k w (enters_among a.head.next k a.enters) (enters_among b.head.next k b.enters)

pub one_suffix : (g : Nonterminal) (s d : ℕ) (y : ℕ) (k : Class) → Has (suffixes g) s → Goes y k s → Has (suffixes g) d → Goes y k d → s ≡ d
one_suffix g s d y k hs ns hd nd = pairwise_one pair_of (Goes y k) (no_pair y k) (suffixes g) (goal_facts g).suffixes hs.0 hd.0 s d hs.1 hd.1 ns nd

pub goes_suffix : (g : Nonterminal) (s : ℕ) (y : ℕ) (k : Class) → Has (suffixes g) s → Goes y k s → Has (kinds g) y → Has (goes g) k
goes_suffix g s y k h n w =
    let f = λ (d : Head). when (meets (kinds d.goal) (kinds g)) (within (entering d.next) (goes g)) in
    let t : f n.head ≡ true = on_some_use f (corner s) n.head n.is (every_has (λ v. on_some f (corner v)) (suffixes g) (goal_facts g).goes s h) in
    within_use (entering n.head.next) (goes g) k (when_use (meets (kinds n.head.goal) (kinds g)) _ t (meets_use (kinds n.head.goal) (kinds g) y n.takes w)) (enters_among n.head.next k n.enters)

pub else_place : (q : ℕ) → Has (bars q) cl.Else → q ≡ before_else
else_place q has = same_place_is q before_else (eqb-true (place_number q) before_else (when_use (among cl.Else (bars q)) _ (place_facts q).elses (has_among cl.Else (bars q) has)))

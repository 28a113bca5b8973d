-- Trees that lie on a way through the places are those that derive: each place spells productions, and each production is spelled by places.
use Rattle.std.proofs.Common.{◌≡◌, ℕ, zero, suc, ◌+◌, ◌<◌, List, [], ◌∷◌, ◌⊎◌, inl, inr, arith, refl, sym, ◌∙◌, ap, subst, Bool, true, false, not, ◌&&◌, ◌||◌, drop, length}
use Rattle.std.specs.Prelude.{Option, Some, None, slice_get}
use Rattle.std.specs.Option.{option_map}
use Rattle.std.proofs.Math.Dec.{eqb}
use Rattle.std.proofs.lemmas.Bool.{eqb-true, and_parts, or_cases, false≢true}
use Rattle.cl_tree.specs.declared.class.Class.{Class}
use Rattle.cl_tree.specs.declared.nonterminal.Nonterminal.{Nonterminal}
use Rattle.cl_tree.specs.declared.grammar.Terminal.{Terminal}
use Rattle.cl_tree.specs.declared.grammar.Terminal.TheVariants as te
use Rattle.cl_tree.specs.declared.grammar.Symbol.{Symbol}
use Rattle.cl_tree.specs.declared.grammar.Symbol.TheVariants.{Token, Node, Entry}
use Rattle.cl_tree.specs.declared.nonterminal.Nonterminal.TheVariants as nt
use Rattle.cl_tree.specs.declared.grammar.Separator.{Separator}
use Rattle.cl_tree.specs.declared.tree.Tree.{Tree}
use Rattle.cl_tree.specs.declared.lexeme.Lexeme.{Lexeme}
use Rattle.cl_tree.specs.declared.scope.Scope.{Scope}
use Rattle.cl_tree.specs.Scopes.{pass, leave}
use Rattle.cl_tree.specs.Grammar.{Production, productions, units, shuns}
use Rattle.cl_tree.specs.Derives as d
use Rattle.cl_tree.specs.Derives.{Has, start, end, parts, left_out, Next, nexts, barred, Opened, StandsFor, itself, through, Derived, SpansFrom}
use Rattle.cl_expr.specs.declared.table.Edge.{Edge}
use Rattle.cl_expr.specs.declared.table.Label.{Label}
use Rattle.cl_expr.specs.declared.table.Ways.{Ways}
use Rattle.cl_expr.specs.code.Table.{Item, Place, places, place, nowhere, goal, goals, number, starts, edges, name_of, bars, bar_of, scoped, turn, turned, turning, is_named, home, items, kinds, shunned}
use Rattle.cl_expr.specs.code.Paths as p
use Rattle.cl_expr.specs.code.Paths.{name, Path, At, Whole}
use Rattle.cl_expr.specs.code.Looks.{class_number}
use Rattle.cl_expr.proofs.All.{all_goals, numbered_goal, all_classes, numbered_class, same_class_is, act_number, same_act_is, same_goal_is, rule_number, same_rule_is}
use Rattle.cl_expr.proofs.Checks.{every, some, when, is_some, when_use, none_is, none_not, some_is, every_has, member_has}
use Rattle.cl_expr.proofs.Conditions.{Way, numbers, every_place, either, home_next, kind_in, place_number}
use Rattle.cl_expr.proofs.Heights.{kind_of, of_kind, kind_flat}
use Rattle.cl_expr.proofs.Reading.{way_of}
use Rattle.cl_expr.proofs.Bars.{bars_are, all_open}
use Rattle.std.proofs.lemmas.Option.{slice_get_within}

-- some member of a list passes a test
pub some_of : {X : Type 0} (f : X → Bool) (xs : List X) → some f xs ≡ true → (x : X) × Has xs x × (f x ≡ true)
some_of f [] t = absurd (false≢true t)
some_of f (y ∷ ys) t = elim (or_cases (f y) (some f ys) t) [
  | inl a ↦ (y, (0, refl), a)
  | inr b ↦ (let o = some_of f ys b in (o.0, (suc o.1.0, o.1.1), o.2))
]

-- equality of symbols
abbrev terminal_number : Terminal → ℕ
terminal_number te.Name = 0
terminal_number te.Open = 1
terminal_number te.TypeOpen = 2
terminal_number te.Typed = 3
terminal_number te.Label = 4
terminal_number te.Marked = 5
terminal_number (te.Is k) = suc (suc (suc (suc (suc (suc (class_number k))))))

abbrev terminal_of : ℕ → Option Terminal
terminal_of zero = Some te.Name
terminal_of (suc zero) = Some te.Open
terminal_of (suc (suc zero)) = Some te.TypeOpen
terminal_of (suc (suc (suc zero))) = Some te.Typed
terminal_of (suc (suc (suc (suc zero)))) = Some te.Label
terminal_of (suc (suc (suc (suc (suc zero))))) = Some te.Marked
terminal_of (suc (suc (suc (suc (suc (suc n)))))) = option_map te.Is (slice_get all_classes n)

numbered_terminal : (t : Terminal) → terminal_of (terminal_number t) ≡ Some t
numbered_terminal te.Name = refl
numbered_terminal te.Open = refl
numbered_terminal te.TypeOpen = refl
numbered_terminal te.Typed = refl
numbered_terminal te.Label = refl
numbered_terminal te.Marked = refl
numbered_terminal (te.Is k) = ap (option_map te.Is) (numbered_class k)

same_terminal : (t u : Terminal) → terminal_number t ≡ terminal_number u → t ≡ u
same_terminal t u e = some_is (sym (numbered_terminal t) ∙ ap terminal_of e ∙ numbered_terminal u)

abbrev symbol_eq : Symbol → Symbol → Bool
symbol_eq (Token t a) (Token u b) = eqb (terminal_number t) (terminal_number u) && eqb (act_number a) (act_number b)
symbol_eq (Token t a) (Node f) = false
symbol_eq (Token t a) Entry = false
symbol_eq (Node g) Entry = false
symbol_eq Entry (Token u b) = false
symbol_eq Entry (Node f) = false
symbol_eq Entry Entry = true
symbol_eq (Node g) (Token u b) = false
symbol_eq (Node g) (Node f) = eqb (number g) (number f)

symbol_same : (x y : Symbol) → symbol_eq x y ≡ true → x ≡ y
symbol_same (Token t a) (Token u b) e =
    let q = and_parts (eqb (terminal_number t) (terminal_number u)) (eqb (act_number a) (act_number b)) e in
    let x : t ≡ u = same_terminal t u (eqb-true (terminal_number t) (terminal_number u) q.0) in
    let y : a ≡ b = same_act_is a b (eqb-true (act_number a) (act_number b) q.1) in
    (λ i. Token (x i) (y i))
symbol_same (Token t a) (Node f) e = absurd (false≢true e)
symbol_same (Token t a) Entry e = absurd (false≢true e)
symbol_same (Node g) Entry e = absurd (false≢true e)
symbol_same Entry (Token u b) e = absurd (false≢true e)
symbol_same Entry (Node f) e = absurd (false≢true e)
symbol_same Entry Entry e = refl
symbol_same (Node g) (Token u b) e = absurd (false≢true e)
symbol_same (Node g) (Node f) e = ap Node (same_goal_is g f (eqb-true (number g) (number f) e))

abbrev before_eq : Option Separator → Option Separator → Bool
before_eq None None = true
before_eq None (Some b) = false
before_eq (Some a) None = false
before_eq (Some a) (Some b) = eqb (class_number a.class) (class_number b.class) && eqb (act_number a.act) (act_number b.act)

before_same : (x y : Option Separator) → before_eq x y ≡ true → x ≡ y
before_same None None e = refl
before_same None (Some b) e = absurd (false≢true e)
before_same (Some a) None e = absurd (false≢true e)
before_same (Some a) (Some b) e =
    let q = and_parts (eqb (class_number a.class) (class_number b.class)) (eqb (act_number a.act) (act_number b.act)) e in
    let x : a.class ≡ b.class = same_class_is a.class b.class (eqb-true (class_number a.class) (class_number b.class) q.0) in
    let y : a.act ≡ b.act = same_act_is a.act b.act (eqb-true (act_number a.act) (act_number b.act) q.1) in
    (λ i. Some (record { class = x i; act = y i }))

-- the productions at a place
abbrev nexts_by : Option Production → ℕ → List Next
nexts_by None n = []
nexts_by (Some r) n = nexts r n

abbrev nexts_item : Item → List Next
nexts_item i = nexts_by (slice_get productions i.production) i.behind

abbrev ends_by : Option Production → ℕ → Bool
ends_by None n = false
ends_by (Some r) n = left_out (drop n r.parts)

abbrev ends_item : Item → Bool
ends_item i = ends_by (slice_get productions i.production) i.behind

abbrev item_eq : Item → Item → Bool
item_eq i j = eqb i.production j.production && eqb i.behind j.behind

abbrev item : ℕ → ℕ → Item
item n b = record { production = n; behind = b }

item_same : (i j : Item) → item_eq i j ≡ true → i ≡ j
item_same i j e =
    let q = and_parts (eqb i.production j.production) (eqb i.behind j.behind) e in
    let x : i.production ≡ j.production = eqb-true i.production j.production q.0 in
    let y : i.behind ≡ j.behind = eqb-true i.behind j.behind q.1 in
    (λ k. record { production = x k; behind = y k })

abbrev has_item : Item → List Item → Bool
has_item i xs = some (λ j. item_eq j i) xs

item_has : (i : Item) (xs : List Item) → has_item i xs ≡ true → Has xs i
item_has i xs t = let o = some_of (λ j. item_eq j i) xs t in subst (Has xs) (item_same o.0 i o.2) o.1

-- an edge is a next symbol of a production there
abbrev takes_kind : Symbol → ℕ → Bool
takes_kind (Token t a) y = false
takes_kind Entry y = false
takes_kind (Node g) y = kind_in y (kinds g) && not (is_some (shuns g))

abbrev from_item : (Symbol → Bool) → Option Separator → Item → Item → Bool
from_item f b j i = eqb i.production j.production && some (λ x. before_eq x.before b && (f x.symbol && eqb x.behind j.behind)) (nexts_item i)

abbrev spelled : (Symbol → Bool) → Option Separator → List Item → Item → Bool
spelled f b is j = some (from_item f b j) is

abbrev back_by : Edge → List Item → Symbol → Option Ways → Bool
back_by e is s None = every (spelled (λ x. symbol_eq x s) e.before is) (items e.next)
back_by e is (Token t a) (Some w) = false
back_by e is Entry (Some w) = false
back_by e is (Node m) (Some w) = every (λ y. every (spelled (λ x. takes_kind x y) e.before is) (items (turned (Some w) e.next (is_named y)))) (kinds m)

abbrev c_back : ℕ → Bool
c_back q = every (λ e. back_by e (items q) e.symbol (turning e.next)) (edges q)

places_back : every_place c_back ≡ true
unfolding shuns places place edges items turning is_named kinds goal goals productions
places_back = refl

-- a next symbol of a production there is an edge
abbrev forth_by : ℕ → Next → Edge → Symbol → Symbol → Option Ways → Bool
forth_by n x e s t None = symbol_eq s t && has_item (item n x.behind) (items e.next)
forth_by n x e (Token k a) t (Some w) = false
forth_by n x e Entry t (Some w) = false
forth_by n x e (Node g) (Token k a) (Some w) = false
forth_by n x e (Node g) Entry (Some w) = false
forth_by n x e (Node g) (Node m) (Some w) = not (is_some (shuns m)) && every (λ y. kind_in y (kinds m) && has_item (item n x.behind) (items (turned (Some w) e.next (is_named y)))) (kinds g)

abbrev forth_edge : ℕ → Next → Edge → Bool
forth_edge n x e = before_eq x.before e.before && forth_by n x e x.symbol e.symbol (turning e.next)

abbrev c_forth : ℕ → Bool
c_forth q = every (λ i. every (λ x. some (forth_edge i.production x) (edges q)) (nexts_item i)) (items q)

places_forth : every_place c_forth ≡ true
unfolding shuns places place edges items turning is_named kinds goal goals productions
places_forth = refl

-- where a production may end, its node, what it bars and whether it is a block are those of the place
abbrev label_eq : Option Label → Production → Bool
label_eq None r = false
label_eq (Some l) r = eqb (rule_number l.rule) (rule_number r.rule) && eqb l.choice r.choice

abbrev bar_eq : Option Terminal → Option Terminal → Bool
bar_eq None None = true
bar_eq None (Some t) = false
bar_eq (Some t) None = false
bar_eq (Some t) (Some u) = eqb (terminal_number t) (terminal_number u)

abbrev flag_eq : Bool → Bool → Bool
flag_eq true b = b
flag_eq false b = not b

abbrev ended_label : ℕ → Option Production → Bool
ended_label q None = false
ended_label q (Some r) = label_eq (name_of q) r && (bar_eq (bar_of q) r.bar && flag_eq (scoped q) r.scoped)

abbrev c_label : ℕ → Bool
c_label q = every (λ i. when (ends_item i) (ended_label q (slice_get productions i.production))) (items q)

places_label : every_place c_label ≡ true
unfolding places place items name_of bar_of scoped productions
places_label = refl

-- a production's nonterminal has the place among those where its trees end
abbrev of_by : ℕ → Option Production → Bool
of_by q None = false
of_by q (Some r) = kind_in q (kinds r.of)

abbrev c_of : ℕ → Bool
c_of q = every (λ i. when (ends_item i) (of_by q (slice_get productions i.production))) (items q)

places_of : every_place c_of ≡ true
unfolding places place items kinds goal goals productions
places_of = refl

-- of each place the production's first place has it from the start
abbrev c_home : ℕ → Bool
c_home q = every (λ i. eqb i.behind 0) (items (home q))

places_home : every_place c_home ≡ true
unfolding places place items home
places_home = refl

abbrev starts_from : ℕ → List ℕ → Bool
starts_from n [] = true
starts_from n (s ∷ ss) = has_item (item n 0) (items s) && (eqb (home s) s && starts_from (n + 1) ss)

starts_checked : starts_from 0 starts ≡ true
unfolding places place items home starts
starts_checked = refl

starts_enough : length starts ≡ length productions
unfolding starts productions
starts_enough = refl

-- one nonterminal stands for another, by at most so many steps
abbrev stands : ℕ → Nonterminal → Nonterminal → Bool
stands zero g f = false
stands (suc n) g f = eqb (number g) (number f) || some (λ u. eqb (number u.of) (number g) && stands n u.by f) units

abbrev stands_by : Nonterminal → Option Production → Bool
stands_by g None = false
stands_by g (Some r) = stands 20 g r.of

abbrev c_kind : Nonterminal → Bool
c_kind g = every (λ z. some (λ i. ends_item i && stands_by g (slice_get productions i.production)) (items z)) (kinds g)

goals_kind : every c_kind all_goals ≡ true
unfolding places place items kinds goal goals productions units
goals_kind = refl

abbrev subset : List ℕ → List ℕ → Bool
subset xs ys = every (λ y. kind_in y ys) xs

units_within : every (λ u. subset (kinds u.by) (kinds u.of)) units ≡ true
unfolding kinds goal goals units
units_within = refl

-- what the code has of what may not begin a nonterminal is what the grammar says
goals_shun : every (λ g. bar_eq (shunned g) (shuns g)) all_goals ≡ true
unfolding shunned shuns goal goals
goals_shun = refl

-- what the checks show
absent : (q : ℕ) → place q ≡ nowhere → (i : Item) → Has (items q) i → ⊥
unfolding items
absent q none i h = none_not (subst (λ (v : List Item). slice_get v h.0 ≡ Some i) (ap (λ (p : Place). p.items) none) h.1)

in_items : (f : ℕ → Bool) → every_place f ≡ true → (q : ℕ) (i : Item) → Has (items q) i → f q ≡ true
in_items f t q i h = elim (either q) [ inl none ↦ absurd (absent q none i h) | inr has ↦ every_has f (numbers 0 places) t q has ]

unedged : (q : ℕ) → place q ≡ nowhere → (e : Edge) → Has (edges q) e → ⊥
unfolding edges
unedged q none e h = none_not (subst (λ (v : List Edge). slice_get v h.0 ≡ Some e) (ap (λ (p : Place). p.edges) none) h.1)

pub in_edges : (f : ℕ → Bool) → every_place f ≡ true → (q : ℕ) (e : Edge) → Has (edges q) e → f q ≡ true
in_edges f t q e h = elim (either q) [ inl none ↦ absurd (unedged q none e h) | inr has ↦ every_has f (numbers 0 places) t q has ]

kind_has : (y : ℕ) (ys : List ℕ) → kind_in y ys ≡ true → Has ys y
kind_has y ys t = member_has place_number (λ a b e. e) y ys t

record Spelled (f : Symbol → Bool) (b : Option Separator) (is : List Item) (j : Item) : Type 0 where
  item_there : Item
  has : Has is item_there
  same : item_there.production ≡ j.production
  next_there : Next
  nexts_have : Has (nexts_item item_there) next_there
  before_is : next_there.before ≡ b
  passes : f next_there.symbol ≡ true
  behind_is : next_there.behind ≡ j.behind

spelled_use : (f : Symbol → Bool) (b : Option Separator) (is : List Item) (j : Item) → spelled f b is j ≡ true → Spelled f b is j
spelled_use f b is j t =
    let o = some_of (from_item f b j) is t in
    let q = and_parts (eqb o.0.production j.production) _ o.2 in
    let x = some_of (λ v. before_eq v.before b && (f v.symbol && eqb v.behind j.behind)) (nexts_item o.0) q.1 in
    let u = and_parts (before_eq x.0.before b) _ x.2 in
    let v = and_parts (f x.0.symbol) (eqb x.0.behind j.behind) u.1 in
    record {
      item_there = o.0;
      has = o.1;
      same = eqb-true o.0.production j.production q.0;
      next_there = x.0;
      nexts_have = x.1;
      before_is = before_same x.0.before b u.0;
      passes = v.0;
      behind_is = eqb-true x.0.behind j.behind v.1;
    }

-- a symbol of a production is that of an edge, or a narrower nonterminal
abbrev Narrower : Symbol → Symbol → ℕ → Type 0
Narrower x s y = (x ≡ s) ⊎ ((g : Nonterminal) × (m : Nonterminal) × (x ≡ Node g) × (s ≡ Node m) × Has (kinds g) y × (shuns g ≡ None))

record Back (q : ℕ) (e : Edge) (y : ℕ) (j : Item) : Type 0 where
  item_there : Item
  has : Has (items q) item_there
  same : item_there.production ≡ j.production
  next_there : Next
  nexts_have : Has (nexts_item item_there) next_there
  before_is : next_there.before ≡ e.before
  behind_is : next_there.behind ≡ j.behind
  fits : Narrower next_there.symbol e.symbol y

takes_kind_use : (x : Symbol) (y : ℕ) → takes_kind x y ≡ true → (g : Nonterminal) × (x ≡ Node g) × Has (kinds g) y × (shuns g ≡ None)
takes_kind_use (Token t a) y e = absurd (false≢true e)
takes_kind_use Entry y e = absurd (false≢true e)
takes_kind_use (Node g) y e = let q = and_parts (kind_in y (kinds g)) (not (is_some (shuns g))) e in (g, refl, kind_has y (kinds g) q.0, none_is (shuns g) q.1)

back_of : (q : ℕ) (e : Edge) (y : ℕ) → Has (edges q) e → Way e.symbol y → (j : Item) → Has (items (turn e.next y)) j → Back q e y j
unfolding turn
back_of q e y has way j there = go e.symbol refl (turning e.next) (every_has (λ v. back_by v (items q) v.symbol (turning v.next)) (edges q) (in_edges c_back places_back q e has) e has) way there
  where
    made : (f : Symbol → Bool) → Spelled f e.before (items q) j → ((x : Symbol) → f x ≡ true → Narrower x e.symbol y) → Back q e y j
    made f o n = record {
      item_there = o.item_there;
      has = o.has;
      same = o.same;
      next_there = o.next_there;
      nexts_have = o.nexts_have;
      before_is = o.before_is;
      behind_is = o.behind_is;
      fits = n o.next_there.symbol o.passes;
    }

    go : (s : Symbol) → e.symbol ≡ s → (o : Option Ways) → back_by e (items q) s o ≡ true → Way s y → Has (items (turned o e.next (is_named y))) j → Back q e y j
    go s is None t w h =
        made (λ x. symbol_eq x s) (spelled_use (λ x. symbol_eq x s) e.before (items q) j (every_has (spelled (λ x. symbol_eq x s) e.before (items q)) (items e.next) t j h))
        (λ x p. inl (symbol_same x s p ∙ sym is))
    go (Token k a) is (Some w) t way h = absurd (false≢true t)
    go Entry is (Some w) t way h = absurd (false≢true t)
    go (Node m) is (Some w) t way h =
        let u = every_has (λ v. every (spelled (λ x. takes_kind x v) e.before (items q)) (items (turned (Some w) e.next (is_named v)))) (kinds m) t y way in
        made (λ x. takes_kind x y)
        (spelled_use (λ x. takes_kind x y) e.before (items q) j (every_has (spelled (λ x. takes_kind x y) e.before (items q)) (items (turned (Some w) e.next (is_named y))) u j h))
        (λ x p. (let o = takes_kind_use x y p in inr (o.0, m, o.1, is, o.2, o.3)))

-- a production that may end at a place
record Ending (z : ℕ) (g : Nonterminal) : Type 0 where
  item_there : Item
  has : Has (items z) item_there
  made : Production
  is : slice_get productions item_there.production ≡ Some made
  out : left_out (drop item_there.behind made.parts) ≡ true
  stands_for : StandsFor g made.of
  label_is : name_of z ≡ Some (record { rule = made.rule; choice = made.choice })
  bars_same : bars z ≡ barred made.bar
  scoped_same : scoped z ≡ made.scoped

stands_use : (n : ℕ) (g f : Nonterminal) → stands n g f ≡ true → StandsFor g f
stands_use zero g f t = absurd (false≢true t)
stands_use (suc n) g f t = elim (or_cases (eqb (number g) (number f)) _ t) [
  | inl a ↦ subst (StandsFor g) (same_goal_is g f (eqb-true (number g) (number f) a)) itself
  | inr b ↦ (
      let o = some_of (λ u. eqb (number u.of) (number g) && stands n u.by f) units b in
      let q = and_parts (eqb (number o.0.of) (number g)) (stands n o.0.by f) o.2 in
      subst (λ (v : Nonterminal). StandsFor v f) (same_goal_is o.0.of g (eqb-true (number o.0.of) (number g) q.0)) (through o.0 o.1 (stands_use n o.0.by f q.1)))
]

label_use : (o : Option Label) (r : Production) → label_eq o r ≡ true → o ≡ Some (record { rule = r.rule; choice = r.choice })
label_use None r t = absurd (false≢true t)
label_use (Some l) r t =
    let q = and_parts (eqb (rule_number l.rule) (rule_number r.rule)) (eqb l.choice r.choice) t in
    let a : l.rule ≡ r.rule = same_rule_is l.rule r.rule (eqb-true (rule_number l.rule) (rule_number r.rule) q.0) in
    let b : l.choice ≡ r.choice = eqb-true l.choice r.choice q.1 in
    (λ i. Some (record { rule = a i; choice = b i }))

bar_use : (o u : Option Terminal) → bar_eq o u ≡ true → o ≡ u
bar_use None None t = refl
bar_use None (Some u) t = absurd (false≢true t)
bar_use (Some o) None t = absurd (false≢true t)
bar_use (Some o) (Some u) t = ap Some (same_terminal o u (eqb-true (terminal_number o) (terminal_number u) t))

pub shunned_as : (g : Nonterminal) → shunned g ≡ shuns g
shunned_as g = bar_use (shunned g) (shuns g) (every_has (λ g. bar_eq (shunned g) (shuns g)) all_goals goals_shun g (number g, numbered_goal g))

flag_use : (a b : Bool) → flag_eq a b ≡ true → a ≡ b
flag_use true b t = sym t
flag_use false true t = absurd (false≢true t)
flag_use false false t = refl

label_at : (z : ℕ) (i : Item) (r : Production) → Has (items z) i → slice_get productions i.production ≡ Some r → ends_item i ≡ true
    → (name_of z ≡ Some (record { rule = r.rule; choice = r.choice })) × (bars z ≡ barred r.bar) × (scoped z ≡ r.scoped)
label_at z i r has is e =
    let t = when_use (ends_item i) _ (every_has (λ v. when (ends_item v) (ended_label z (slice_get productions v.production))) (items z) (in_items c_label places_label z i has) i has) e in
    let u : ended_label z (Some r) ≡ true = subst (λ (v : Option Production). ended_label z v ≡ true) is t in
    let q = and_parts (label_eq (name_of z) r) _ u in
    let v = and_parts (bar_eq (bar_of z) r.bar) (flag_eq (scoped z) r.scoped) q.1 in
    (label_use (name_of z) r q.0, bars_are z ∙ ap barred (bar_use (bar_of z) r.bar v.0), flag_use (scoped z) r.scoped v.1)

ending_by : (z : ℕ) (g : Nonterminal) (i : Item) → Has (items z) i → ends_item i ≡ true → stands_by g (slice_get productions i.production) ≡ true → Ending z g
ending_by z g i has e s = go (slice_get productions i.production) refl e s
  where
    go : (o : Option Production) → slice_get productions i.production ≡ o → ends_by o i.behind ≡ true → stands_by g o ≡ true → Ending z g
    go None is e' s' = absurd (false≢true e')
    go (Some r) is e' s' =
        let l = label_at z i r has is e in
        record { item_there = i; has = has; made = r; is = is; out = e'; stands_for = stands_use 20 g r.of s'; label_is = l.0; bars_same = l.1; scoped_same = l.2 }

production_of : (g : Nonterminal) (z : ℕ) → Has (kinds g) z → Ending z g
production_of g z has =
    let t = every_has c_kind all_goals goals_kind g (number g, numbered_goal g) in
    let o = some_of (λ i. ends_item i && stands_by g (slice_get productions i.production)) (items z)
    (every_has (λ v. some (λ i. ends_item i && stands_by g (slice_get productions i.production)) (items v)) (kinds g) t z has) in
    let q = and_parts (ends_item o.0) (stands_by g (slice_get productions o.0.production)) o.2 in
    ending_by z g o.0 o.1 q.0 q.1

first_none : items 0 ≡ []
unfolding places place items
first_none = refl

home_none : (z : ℕ) → place z ≡ nowhere → home z ≡ 0
unfolding home
home_none z none = ap (λ (p : Place). p.home) none

home_first : (z : ℕ) (i : Item) → Has (items (home z)) i → i.behind ≡ 0
home_first z i has = elim (either z) [
  | inl none ↦ absurd (none_not (subst (λ (v : List Item). slice_get v has.0 ≡ Some i) (ap items (home_none z none) ∙ first_none) has.1))
  | inr h ↦ eqb-true i.behind 0 (every_has (λ v. eqb v.behind 0) (items (home z)) (every_has c_home (numbers 0 places) places_home z h) i has)
]

-- from places to productions
module _ (cs : List Lexeme) (h : ℕ) (f : (g : Nonterminal) (z : ℕ) (sa : Scope) (t : Tree) (sw : Scope) → At cs h g z sa t sw → Derived cs h g sa t sw)
    (b : (g : Nonterminal) (sa : Scope) (t : Tree) (sw : Scope) → Derived cs h g sa t sw → (z : ℕ) × At cs h g z sa t sw) where
  same_reads : (s : Symbol) (y : ℕ) (sa : Scope) (at : ℕ) (t : Tree) (sw : Scope) → p.Reads (At cs h) h cs s y sa at t sw → d.Reads (Derived cs h) h cs s sa at t sw
  same_reads (Token k a) y sa at t sw r = (r.1, r.2, r.3, r.4)
  same_reads (Node g) y sa at t sw r = (f g y sa t sw r.0, r.1)
  same_reads Entry y sa at t sw (inl r) = inl (f nt.BlockItem y sa t sw r.0, r.1)
  same_reads Entry y sa at t sw (inr r) = inr (r.1, r.2, r.3, r.4, λ u v d e. (let o = b nt.BlockItem sa u v d in r.5 u o.0 v o.1 e))

  fit_reads : (x s : Symbol) (y : ℕ) → Narrower x s y → (sa : Scope) (at : ℕ) (t : Tree) (sw : Scope) → p.Reads (At cs h) h cs s y sa at t sw → d.Reads (Derived cs h) h cs x sa at t sw
  fit_reads x s y (inl e) sa at t sw r = subst (λ (v : Symbol). d.Reads (Derived cs h) h cs v sa at t sw) (sym e) (same_reads s y sa at t sw r)
  fit_reads x s y (inr n) sa at t sw r =
      let u : p.Reads (At cs h) h cs (Node n.1) y sa at t sw = subst (λ (v : Symbol). p.Reads (At cs h) h cs v y sa at t sw) n.3 r in
      let w : d.Reads (Derived cs h) h cs (Node n.0) sa at t sw = (f n.0 y sa t sw (n.4, u.0.1, all_open cs n.0 sa (start t) n.5), u.1) in
      subst (λ (v : Symbol). d.Reads (Derived cs h) h cs v sa at t sw) (sym n.2) w

  after_reads : (b : Option Separator) (x s : Symbol) (y : ℕ) → Narrower x s y → (sa : Scope) (at : ℕ) (t : Tree) (sw : Scope) → p.ReadsAfter (At cs h) h cs b s y sa at t sw → d.ReadsAfter (Derived cs h) h cs b x sa at t sw
  after_reads None x s y n sa at t sw r = fit_reads x s y n sa at t sw r
  after_reads (Some o) x s y n sa at t sw r = (r.0, fit_reads x s y n (pass cs sa o.act at) (at + 1) t sw r.1)

  follow : (ps : List Tree) (q : ℕ) (sa : Scope) (at to z : ℕ) (sw : Scope) → Path (At cs h) h cs q sa at to ps z sw → (j : Item) → Has (items z) j → (r : Production) → slice_get productions j.production ≡ Some r
      → left_out (drop j.behind r.parts) ≡ true → (b : ℕ) × Has (items q) (item j.production b) × d.Follows (Derived cs h) h cs r b sa at to ps sw
  follow [] q sa at to z sw path j has r is out = (j.behind, subst (λ (v : ℕ). Has (items v) j) (sym path.1) has, (out, path.0, path.2))
  follow (t ∷ ps) q sa at to z sw path j has r is out =
      let e = path.0 in
      let y = path.1 in
      let rest = follow ps (turn e.next y) path.2 (end t) to z sw path.5 j has r is out in
      let way = way_of cs h e.before e.symbol y sa at t path.2 path.4 in
      let o = back_of q e y path.3 way (item j.production rest.0) rest.1 in
      let here : slice_get productions o.item_there.production ≡ Some r = ap (slice_get productions) o.same ∙ is in
      let can : Has (nexts r o.item_there.behind) o.next_there = subst (λ (v : Option Production). Has (nexts_by v o.item_there.behind) o.next_there) here o.nexts_have in
      let reads = subst (λ (v : Option Separator). d.ReadsAfter (Derived cs h) h cs v o.next_there.symbol sa at t path.2) (sym o.before_is)
      (after_reads e.before o.next_there.symbol e.symbol y o.fits sa at t path.2 path.4) in (
        o.item_there.behind,
        subst (λ (n : ℕ). Has (items q) (item n o.item_there.behind)) o.same o.has,
        (o.next_there, path.2, can, reads, subst (λ (n : ℕ). d.Follows (Derived cs h) h cs r n path.2 (end t) to ps sw) (sym o.behind_is) rest.2),
      )

-- each view from the other, with a bound
record Both (cs : List Lexeme) (h : ℕ) : Type 0 where
  to : (g : Nonterminal) (z : ℕ) (sa : Scope) (t : Tree) (sw : Scope) → At cs h g z sa t sw → Derived cs h g sa t sw
  back : (g : Nonterminal) (sa : Scope) (t : Tree) (sw : Scope) → Derived cs h g sa t sw → (z : ℕ) × At cs h g z sa t sw

derived_step : (cs : List Lexeme) (h : ℕ) → Both cs h → (g : Nonterminal) (z : ℕ) (sa : Scope) (t : Tree) (sw : Scope) → At cs (suc h) g z sa t sw → Derived cs (suc h) g sa t sw
unfolding Derived
derived_step cs h r g z sa t sw a =
    let k = kind_of cs h z sa t sw a.1 in
    let o = production_of g z a.0 in
    let fl = follow cs h r.to r.back (parts t) (home z) sa (start t) (end t) z k.state k.path o.item_there o.has o.made o.is o.out in
    let none : fl.0 ≡ 0 = home_first z (item o.item_there.production fl.0) fl.1 in
    let label : name t ≡ record { rule = o.made.rule; choice = o.made.choice } = some_is (sym k.ended.0 ∙ o.label_is) in (
      o.made,
      (o.item_there.production, o.is),
      o.stands_for,
      a.2,
      (
        ap (λ (l : Label). l.rule) label,
        ap (λ (l : Label). l.choice) label,
        k.state,
        subst (λ (n : ℕ). d.Follows (Derived cs h) h cs o.made n sa (start t) (end t) (parts t) k.state) none fl.2,
        (λ c token bar. (let l = k.ended.1 c token (subst (λ (v : List Class). Has v c) (sym o.bars_same) bar) in (l.0, λ u v d e. (let x = r.back nt.Statement _ u v d in l.1 u x.0 v x.1 e)))),
        subst (λ (b : Bool). sw ≡ leave b sa k.state) o.scoped_same k.leaves,
      ),
    )

-- from productions to places
-- a symbol of a production is that of an edge, or a nonterminal that the edge takes too
abbrev Wider : Symbol → Symbol → ℕ → Type 0
Wider x s y = (x ≡ s) ⊎ ((g : Nonterminal) × (m : Nonterminal) × (x ≡ Node g) × (s ≡ Node m) × Has (kinds m) y × (shuns m ≡ None))

record Forth (q n : ℕ) (x : Next) : Type 0 where
  edge_there : Edge
  has : Has (edges q) edge_there
  before_is : x.before ≡ edge_there.before
  goes_to : (y : ℕ) → Way x.symbol y → Has (items (turn edge_there.next y)) (item n x.behind) × Wider x.symbol edge_there.symbol y

forth_to : (n : ℕ) (x : Next) (e : Edge) (s t : Symbol) → x.symbol ≡ s → e.symbol ≡ t → (o : Option Ways) → forth_by n x e s t o ≡ true → (y : ℕ) → Way s y
    → Has (items (turned o e.next (is_named y))) (item n x.behind) × Wider x.symbol e.symbol y
forth_to n x e s t xs et None c y w =
    let q = and_parts (symbol_eq s t) (has_item (item n x.behind) (items e.next)) c in
    (item_has (item n x.behind) (items e.next) q.1, inl (xs ∙ symbol_same s t q.0 ∙ sym et))
forth_to n x e (Token k a) t xs et (Some w) c y way = absurd (false≢true c)
forth_to n x e Entry t xs et (Some w) c y way = absurd (false≢true c)
forth_to n x e (Node g) (Token k a) xs et (Some w) c y way = absurd (false≢true c)
forth_to n x e (Node g) Entry xs et (Some w) c y way = absurd (false≢true c)
forth_to n x e (Node g) (Node m) xs et (Some w) c y way =
    let o = and_parts (not (is_some (shuns m))) _ c in
    let u = every_has (λ v. kind_in v (kinds m) && has_item (item n x.behind) (items (turned (Some w) e.next (is_named v)))) (kinds g) o.1 y way in
    let q = and_parts (kind_in y (kinds m)) (has_item (item n x.behind) (items (turned (Some w) e.next (is_named y)))) u in
    (item_has (item n x.behind) (items (turned (Some w) e.next (is_named y))) q.1, inr (g, m, xs, et, kind_has y (kinds m) q.0, none_is (shuns m) o.0))

forth_of : (q n b : ℕ) (x : Next) → Has (items q) (item n b) → Has (nexts_item (item n b)) x → Forth q n x
unfolding turn
forth_of q n b x has can =
    let t = every_has (λ i. every (λ v. some (forth_edge i.production v) (edges q)) (nexts_item i)) (items q) (in_items c_forth places_forth q (item n b) has) (item n b) has in
    let o = some_of (forth_edge n x) (edges q) (every_has (λ v. some (forth_edge n v) (edges q)) (nexts_item (item n b)) t x can) in
    let u = and_parts (before_eq x.before o.0.before) (forth_by n x o.0 x.symbol o.0.symbol (turning o.0.next)) o.2 in
    record {
      edge_there = o.0;
      has = o.1;
      before_is = before_same x.before o.0.before u.0;
      goes_to = λ y w. forth_to n x o.0 x.symbol o.0.symbol refl refl (turning o.0.next) u.1 y w;
    }

-- a way through the places of a production
record Through (D : Nonterminal → ℕ → Scope → Tree → Scope → Type 0) (h : ℕ) (cs : List Lexeme) (r : Production) (n q : ℕ) (sa : Scope) (at to : ℕ) (ps : List Tree) (sw : Scope) : Type 0 where
  last : ℕ
  path : Path D h cs q sa at to ps last sw
  behind : ℕ
  has : Has (items last) (item n behind)
  out : left_out (drop behind r.parts) ≡ true
  home_is : home last ≡ home q

module _ (cs : List Lexeme) (h : ℕ) (b : (g : Nonterminal) (z : ℕ) (sa : Scope) (t : Tree) (sw : Scope) → At cs h g z sa t sw → Derived cs h g sa t sw)
    (f : (g : Nonterminal) (sa : Scope) (t : Tree) (sw : Scope) → Derived cs h g sa t sw → (z : ℕ) × At cs h g z sa t sw) where
  reads_back : (x : Symbol) (sa : Scope) (at : ℕ) (t : Tree) (sw : Scope) → d.Reads (Derived cs h) h cs x sa at t sw → (y : ℕ) × Way x y × p.Reads (At cs h) h cs x y sa at t sw
  reads_back (Token k a) sa at t sw r = (0, refl, (refl, r.0, r.1, r.2, r.3))
  reads_back (Node g) sa at t sw r = (let o = f g sa t sw r.0 in (o.0, o.1.0, (o.1, r.1)))
  reads_back Entry sa at t sw (inl r) = (let o = f nt.BlockItem sa t sw r.0 in (o.0, tt, inl (o.1, r.1)))
  reads_back Entry sa at t sw (inr r) = (0, tt, inr (refl, r.0, r.1, r.2, r.3, λ u z v a e. r.4 u v (b nt.BlockItem z sa u v a) e))

  wide_reads : (x s : Symbol) (y : ℕ) → Wider x s y → (sa : Scope) (at : ℕ) (t : Tree) (sw : Scope) → p.Reads (At cs h) h cs x y sa at t sw → p.Reads (At cs h) h cs s y sa at t sw
  wide_reads x s y (inl e) sa at t sw r = subst (λ (v : Symbol). p.Reads (At cs h) h cs v y sa at t sw) e r
  wide_reads x s y (inr n) sa at t sw r =
      let u : p.Reads (At cs h) h cs (Node n.0) y sa at t sw = subst (λ (v : Symbol). p.Reads (At cs h) h cs v y sa at t sw) n.2 r in
      let w : p.Reads (At cs h) h cs (Node n.1) y sa at t sw = ((n.4, u.0.1, all_open cs n.1 sa (start t) n.5), u.1) in
      subst (λ (v : Symbol). p.Reads (At cs h) h cs v y sa at t sw) (sym n.3) w

  after_back : (b : Option Separator) (x : Symbol) (sa : Scope) (at : ℕ) (t : Tree) (sw : Scope) → d.ReadsAfter (Derived cs h) h cs b x sa at t sw → (y : ℕ) × Way x y × p.ReadsAfter (At cs h) h cs b x y sa at t sw
  after_back None x sa at t sw r = reads_back x sa at t sw r
  after_back (Some b) x sa at t sw r = (let o = reads_back x (pass cs sa b.act at) (at + 1) t sw r.1 in (o.0, o.1, (r.0, o.2)))

  after_wide : (b : Option Separator) (x s : Symbol) (y : ℕ) → Wider x s y → (sa : Scope) (at : ℕ) (t : Tree) (sw : Scope) → p.ReadsAfter (At cs h) h cs b x y sa at t sw → p.ReadsAfter (At cs h) h cs b s y sa at t sw
  after_wide None x s y n sa at t sw r = wide_reads x s y n sa at t sw r
  after_wide (Some b) x s y n sa at t sw r = (r.0, wide_reads x s y n (pass cs sa b.act at) (at + 1) t sw r.1)

  path_of : (r : Production) (n : ℕ) → slice_get productions n ≡ Some r → (ps : List Tree) (b q : ℕ) (sa : Scope) (at to : ℕ) (sw : Scope) → Has (items q) (item n b)
      → d.Follows (Derived cs h) h cs r b sa at to ps sw → Through (At cs h) h cs r n q sa at to ps sw
  path_of r n is [] b q sa at to sw has fl = record { last = q; path = (fl.1, refl, fl.2); behind = b; has = has; out = fl.0; home_is = refl }
  path_of r n is (t ∷ ps) b q sa at to sw has fl =
      let x = fl.0 in
      let can : Has (nexts_item (item n b)) x = subst (λ (v : Option Production). Has (nexts_by v b) x) (sym is) fl.2 in
      let o = forth_of q n b x has can in
      let e = o.edge_there in
      let k = after_back x.before x.symbol sa at t fl.1 fl.3 in
      let y = k.0 in
      let g = o.goes_to y k.1 in
      let reads = subst (λ (v : Option Separator). p.ReadsAfter (At cs h) h cs v e.symbol y sa at t fl.1) o.before_is (after_wide x.before x.symbol e.symbol y g.1 sa at t fl.1 k.2) in
      let rest = path_of r n is ps x.behind (turn e.next y) fl.1 (end t) to sw g.0 fl.4 in
      record {
        last = rest.last;
        path = (e, y, fl.1, o.has, reads, rest.path);
        behind = rest.behind;
        has = rest.has;
        out = rest.out;
        home_is = rest.home_is ∙ home_next q e y o.has (way_of cs h e.before e.symbol y sa at t fl.1 reads);
      }

-- where a production begins
record Starting (n : ℕ) : Type 0 where
  first : ℕ
  has : Has (items first) (item n 0)
  home_is : home first ≡ first

start_at : (ss : List ℕ) (n i : ℕ) → starts_from n ss ≡ true → i < length ss → Starting (n + i)
start_at [] n i t l = absurd (omega arith)
start_at (s ∷ ss) n zero t l =
    let q = and_parts (has_item (item n 0) (items s)) _ t in
    let r = and_parts (eqb (home s) s) (starts_from (n + 1) ss) q.1 in
    let same : n ≡ n + 0 = omega arith in
    record { first = s; has = subst (λ (v : ℕ). Has (items s) (item v 0)) same (item_has (item n 0) (items s) q.0); home_is = eqb-true (home s) s r.0 }
start_at (s ∷ ss) n (suc i) t l =
    let q = and_parts (has_item (item n 0) (items s)) _ t in
    let r = and_parts (eqb (home s) s) (starts_from (n + 1) ss) q.1 in
    let same : (n + 1) + i ≡ n + suc i = omega arith in
    subst Starting same (start_at ss (n + 1) i r.1 (omega arith))

starting : (n : ℕ) (r : Production) → slice_get productions n ≡ Some r → Starting n
starting n r is =
    let l : n < length productions = slice_get_within productions n r is in
    let l' : n < length starts = subst (λ (v : ℕ). n < v) (sym starts_enough) l in
    let same : 0 + n ≡ n = omega arith in
    subst Starting same (start_at starts 0 n starts_checked l')

-- a place where a production of a nonterminal ends is one of its kinds
kinds_have : (g f : Nonterminal) → StandsFor g f → (z : ℕ) → Has (kinds f) z → Has (kinds g) z
kinds_have g f itself z has = has
kinds_have g f (through u is more) z has =
    let a = kinds_have u.by f more z has in
    kind_has z (kinds u.of) (every_has (λ y. kind_in y (kinds u.of)) (kinds u.by) (every_has (λ v. subset (kinds v.by) (kinds v.of)) units units_within u is) z a)

own_kind : (z n b : ℕ) (r : Production) → Has (items z) (item n b) → slice_get productions n ≡ Some r → ends_item (item n b) ≡ true → Has (kinds r.of) z
own_kind z n b r has is e =
    let t = when_use (ends_item (item n b)) _ (every_has (λ v. when (ends_item v) (of_by z (slice_get productions v.production))) (items z) (in_items c_of places_of z (item n b) has) (item n b) has) e in
    kind_has z (kinds r.of) (subst (λ (v : Option Production). of_by z v ≡ true) is t)

kind_step : (cs : List Lexeme) (h : ℕ) → Both cs h → (g : Nonterminal) (sa : Scope) (t : Tree) (sw : Scope) → Derived cs (suc h) g sa t sw → (z : ℕ) × At cs (suc h) g z sa t sw
unfolding Derived
kind_step cs h r g sa t sw a =
    let p = a.0 in
    let n = a.1.0 in
    let is = a.1.1 in
    let s = starting n p is in
    let w = path_of cs h r.to r.back p n is (parts t) 0 s.first sa (start t) (end t) a.4.2 s.has a.4.3 in
    let z = w.last in
    let ends : ends_item (item n w.behind) ≡ true = subst (λ (v : Option Production). ends_by v w.behind ≡ true) (sym is) w.out in
    let l = label_at z (item n w.behind) p w.has is ends in
    let home_is : s.first ≡ home z = sym (w.home_is ∙ s.home_is) in
    let label : record { rule = p.rule; choice = p.choice } ≡ name t = (let x = sym a.4.0 in let y = sym a.4.1 in (λ i. record { rule = x i; choice = y i })) in (
      z,
      (
        kinds_have g p.of a.2 z (own_kind z n w.behind p w.has is ends),
        of_kind cs h z sa t sw a.4.2 (subst (λ (b : Bool). sw ≡ leave b sa a.4.2) (sym l.2) a.4.5)
            (l.0 ∙ ap Some label, λ c token bar. (let o = a.4.4 c token (subst (λ (v : List Class). Has v c) l.1 bar) in (o.0, λ u y v d e. o.1 u v (r.to nt.Statement y _ u v d) e)))
            (subst (λ (v : ℕ). Path (At cs h) h cs v sa (start t) (end t) (parts t) z a.4.2) home_is w.path),
        a.3,
      ),
    )

derived_flat : (cs : List Lexeme) (g : Nonterminal) (sa : Scope) (t : Tree) (sw : Scope) → Derived cs 0 g sa t sw → ⊥
unfolding Derived
derived_flat cs g sa t sw a = a

both : (cs : List Lexeme) (h : ℕ) → Both cs h
both cs zero = record { to = λ g z sa t sw a. absurd (kind_flat cs z sa t sw a.1); back = λ g sa t sw a. absurd (derived_flat cs g sa t sw a) }
both cs (suc h) = let r = both cs h in record { to = λ g z sa t sw a. derived_step cs h r g z sa t sw a; back = λ g sa t sw a. kind_step cs h r g sa t sw a }

-- the two views of a whole tree
pub to_derives : (g : Nonterminal) (cs : List Lexeme) (sa : Scope) (first : ℕ) (t : Tree) (sw : Scope) → Whole g cs sa first t sw → SpansFrom g cs sa first t sw
to_derives g cs sa first t sw w = record { derived = (both cs 512).to g w.kind sa t sw w.at; from = w.from; to = w.to }

pub of_derives : (g : Nonterminal) (cs : List Lexeme) (sa : Scope) (first : ℕ) (t : Tree) (sw : Scope) → SpansFrom g cs sa first t sw → Whole g cs sa first t sw
of_derives g cs sa first t sw w = let o = (both cs 512).back g sa t sw w.derived in record { kind = o.0; at = o.1; from = w.from; to = w.to }

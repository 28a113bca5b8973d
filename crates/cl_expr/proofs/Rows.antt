-- What the code has of a place or a nonterminal is what the table says.
use Rattle.std.proofs.Common.{◌≡◌, ℕ, ◌+◌, ◌-◌, ◌≤◌, List, [], map, refl, sym, ◌∙◌, ap, length, Bool, true, false, ◌&&◌, arith}
use Rattle.std.specs.Prelude.{Option, Some, None, slice_get, slice_range}
use Rattle.std.specs.Option.{option_map}
use Rattle.std.proofs.lemmas.Option.{slice_get-map}
use Rattle.cl_tree.specs.declared.nonterminal.Nonterminal.{Nonterminal}
use Rattle.cl_expr.specs.declared.table.Row.{Row}
use Rattle.cl_expr.specs.declared.table.GoalRow.{GoalRow}
use Rattle.cl_expr.specs.code.Table.{Place, Goal, places, goals, place, goal, nowhere, nothing, place_of, goal_of, rows, goal_rows, all_edges, all_kinds, all_openers, all_suffixes, edges, name_of, bar_of, scoped, corner, turning, is_named, kinds, openers, suffixes, shunned, number}
use Rattle.std.proofs.Math.Dec.{eqb}
use Rattle.std.proofs.lemmas.Bool.{eqb-true, and_parts}
use Rattle.cl_expr.proofs.Checks.{every, every_at, some_is, none_not}

row_labels : map (λ (r : Row). r.label) rows ≡ map (λ (p : Place). p.label) places
unfolding rows places
row_labels = refl

row_bars : map (λ (r : Row). r.bar) rows ≡ map (λ (p : Place). p.bar) places
unfolding rows places
row_bars = refl

row_scoped : map (λ (r : Row). r.scoped) rows ≡ map (λ (p : Place). p.scoped) places
unfolding rows places
row_scoped = refl

row_corners : map (λ (r : Row). r.corner) rows ≡ map (λ (p : Place). p.corner) places
unfolding rows places
row_corners = refl

row_turnings : map (λ (r : Row). r.turning) rows ≡ map (λ (p : Place). p.turning) places
unfolding rows places
row_turnings = refl

row_named : map (λ (r : Row). r.named) rows ≡ map (λ (p : Place). p.named) places
unfolding rows places
row_named = refl

row_edges : map (λ (r : Row). slice_range all_edges r.first r.last) rows ≡ map (λ (p : Place). p.edges) places
unfolding rows places all_edges
row_edges = refl

-- a range that lies in a list of a length
abbrev lies : ℕ → ℕ → ℕ → Bool
lies a b n = eqb (a + (b - a)) b && eqb (b + (n - b)) n

rows_lie : every (λ (r : Row). lies r.first r.last (length all_edges)) rows ≡ true
unfolding rows places all_edges
rows_lie = refl

lies_use : (a b n : ℕ) → lies a b n ≡ true → (a ≤ b) × (b ≤ n)
lies_use a b n t =
    let p = and_parts (eqb (a + (b - a)) b) (eqb (b + (n - b)) n) t in
    let x : a + (b - a) ≡ b = eqb-true (a + (b - a)) b p.0 in
    let y : b + (n - b) ≡ n = eqb-true (b + (n - b)) n p.1 in
    (omega arith, omega arith)

module _ {X A B : Type 0} (xs : List A) (ys : List B) (f : A → X) (g : B → X) (same : map f xs ≡ map g ys) where
  fields : (q : ℕ) → option_map f (slice_get xs q) ≡ option_map g (slice_get ys q)
  fields q = sym (slice_get-map f xs q) ∙ ap (λ (zs : List X). slice_get zs q) same ∙ slice_get-map g ys q

some_place : {X : Type 0} (g : Place → X) (o : Option Place) (x : X) → Some x ≡ option_map g o → x ≡ g (place_of o)
some_place g None x e = absurd (none_not (sym e))
some_place g (Some p) x e = some_is e

none_place : {X : Type 0} (g : Place → X) (o : Option Place) → None ≡ option_map g o → place_of o ≡ nowhere
none_place g None e = refl
none_place g (Some p) e = absurd (none_not e)

some_goal : {X : Type 0} (g : Goal → X) (o : Option Goal) (x : X) → Some x ≡ option_map g o → x ≡ g (goal_of o)
some_goal g None x e = absurd (none_not (sym e))
some_goal g (Some p) x e = some_is e

none_goal : {X : Type 0} (g : Goal → X) (o : Option Goal) → None ≡ option_map g o → goal_of o ≡ nothing
none_goal g None e = refl
none_goal g (Some p) e = absurd (none_not e)

field_of : {X : Type 0} (f : Row → X) (g : Place → X) → map f rows ≡ map g places → (q : ℕ) (r : Row) → slice_get rows q ≡ Some r → f r ≡ g (place q)
unfolding place
field_of f g same q r e = some_place g (slice_get places q) (f r) (ap (option_map f) (sym e) ∙ fields rows places f g same q)

pub missing : (q : ℕ) → slice_get rows q ≡ None → place q ≡ nowhere
unfolding place
missing q e = none_place (λ (p : Place). p.label) (slice_get places q) (ap (option_map (λ (r : Row). r.label)) (sym e) ∙ fields rows places (λ (r : Row). r.label) (λ (p : Place). p.label) row_labels q)

module _ (q : ℕ) (r : Row) (e : slice_get rows q ≡ Some r) where
  pub label_is : r.label ≡ name_of q
  unfolding name_of
  label_is = field_of (λ (r : Row). r.label) (λ (p : Place). p.label) row_labels q r e

  pub bar_is : r.bar ≡ bar_of q
  unfolding bar_of
  bar_is = field_of (λ (r : Row). r.bar) (λ (p : Place). p.bar) row_bars q r e

  pub scoped_is : r.scoped ≡ scoped q
  unfolding scoped
  scoped_is = field_of (λ (r : Row). r.scoped) (λ (p : Place). p.scoped) row_scoped q r e

  pub corner_is : r.corner ≡ corner q
  unfolding corner
  corner_is = field_of (λ (r : Row). r.corner) (λ (p : Place). p.corner) row_corners q r e

  pub turning_is : r.turning ≡ turning q
  unfolding turning
  turning_is = field_of (λ (r : Row). r.turning) (λ (p : Place). p.turning) row_turnings q r e

  pub named_is : r.named ≡ is_named q
  unfolding is_named
  named_is = field_of (λ (r : Row). r.named) (λ (p : Place). p.named) row_named q r e

  pub edges_are : slice_range all_edges r.first r.last ≡ edges q
  unfolding edges
  edges_are = field_of (λ (r : Row). slice_range all_edges r.first r.last) (λ (p : Place). p.edges) row_edges q r e

  pub edges_lie : (r.first ≤ r.last) × (r.last ≤ length all_edges)
  edges_lie = lies_use r.first r.last (length all_edges) (every_at (λ (r : Row). lies r.first r.last (length all_edges)) rows rows_lie q r e)

pub none_label : (q : ℕ) → slice_get rows q ≡ None → name_of q ≡ None
unfolding name_of
none_label q e = ap (λ (p : Place). p.label) (missing q e)

pub none_bar : (q : ℕ) → slice_get rows q ≡ None → bar_of q ≡ None
unfolding bar_of
none_bar q e = ap (λ (p : Place). p.bar) (missing q e)

pub none_scoped : (q : ℕ) → slice_get rows q ≡ None → scoped q ≡ false
unfolding scoped
none_scoped q e = ap (λ (p : Place). p.scoped) (missing q e)

pub none_corner : (q : ℕ) → slice_get rows q ≡ None → corner q ≡ None
unfolding corner
none_corner q e = ap (λ (p : Place). p.corner) (missing q e)

pub none_turning : (q : ℕ) → slice_get rows q ≡ None → turning q ≡ None
unfolding turning
none_turning q e = ap (λ (p : Place). p.turning) (missing q e)

pub none_named : (q : ℕ) → slice_get rows q ≡ None → is_named q ≡ false
unfolding is_named
none_named q e = ap (λ (p : Place). p.named) (missing q e)

pub none_edges : (q : ℕ) → slice_get rows q ≡ None → edges q ≡ []
unfolding edges
none_edges q e = ap (λ (p : Place). p.edges) (missing q e)

goal_kinds : map (λ (r : GoalRow). slice_range all_kinds r.kinds.from r.kinds.to) goal_rows ≡ map (λ (p : Goal). p.kinds) goals
unfolding goal_rows goals all_kinds
goal_kinds = refl

kinds_lie_all : every (λ (r : GoalRow). lies r.kinds.from r.kinds.to (length all_kinds)) goal_rows ≡ true
unfolding goal_rows goals all_kinds
kinds_lie_all = refl

pub kinds_are : (g : Nonterminal) (r : GoalRow) → slice_get goal_rows (number g) ≡ Some r → slice_range all_kinds r.kinds.from r.kinds.to ≡ kinds g
unfolding kinds goal
kinds_are g r e = some_goal (λ (p : Goal). p.kinds) (slice_get goals (number g)) (slice_range all_kinds r.kinds.from r.kinds.to)
    (ap (option_map (λ (r : GoalRow). slice_range all_kinds r.kinds.from r.kinds.to)) (sym e) ∙ fields goal_rows goals (λ (r : GoalRow). slice_range all_kinds r.kinds.from r.kinds.to) (λ (p : Goal). p.kinds) goal_kinds (number g))

pub kinds_lie : (g : Nonterminal) (r : GoalRow) → slice_get goal_rows (number g) ≡ Some r → (r.kinds.from ≤ r.kinds.to) × (r.kinds.to ≤ length all_kinds)
kinds_lie g r e = lies_use r.kinds.from r.kinds.to (length all_kinds) (every_at (λ (r : GoalRow). lies r.kinds.from r.kinds.to (length all_kinds)) goal_rows kinds_lie_all (number g) r e)

pub none_kinds : (g : Nonterminal) → slice_get goal_rows (number g) ≡ None → kinds g ≡ []
unfolding kinds goal
none_kinds g e = ap (λ (p : Goal). p.kinds) (none_goal (λ (p : Goal). p.kinds) (slice_get goals (number g))
    (ap (option_map (λ (r : GoalRow). slice_range all_kinds r.kinds.from r.kinds.to)) (sym e) ∙ fields goal_rows goals (λ (r : GoalRow). slice_range all_kinds r.kinds.from r.kinds.to) (λ (p : Goal). p.kinds) goal_kinds (number g)))

goal_openers : map (λ (r : GoalRow). slice_range all_openers r.openers.from r.openers.to) goal_rows ≡ map (λ (p : Goal). p.openers) goals
unfolding goal_rows goals all_openers
goal_openers = refl

openers_lie_all : every (λ (r : GoalRow). lies r.openers.from r.openers.to (length all_openers)) goal_rows ≡ true
unfolding goal_rows goals all_openers
openers_lie_all = refl

pub openers_are : (g : Nonterminal) (r : GoalRow) → slice_get goal_rows (number g) ≡ Some r → slice_range all_openers r.openers.from r.openers.to ≡ openers g
unfolding openers goal
openers_are g r e = some_goal (λ (p : Goal). p.openers) (slice_get goals (number g)) (slice_range all_openers r.openers.from r.openers.to)
    (ap (option_map (λ (r : GoalRow). slice_range all_openers r.openers.from r.openers.to)) (sym e) ∙ fields goal_rows goals (λ (r : GoalRow). slice_range all_openers r.openers.from r.openers.to) (λ (p : Goal). p.openers) goal_openers (number g))

pub openers_lie : (g : Nonterminal) (r : GoalRow) → slice_get goal_rows (number g) ≡ Some r → (r.openers.from ≤ r.openers.to) × (r.openers.to ≤ length all_openers)
openers_lie g r e = lies_use r.openers.from r.openers.to (length all_openers) (every_at (λ (r : GoalRow). lies r.openers.from r.openers.to (length all_openers)) goal_rows openers_lie_all (number g) r e)

pub none_openers : (g : Nonterminal) → slice_get goal_rows (number g) ≡ None → openers g ≡ []
unfolding openers goal
none_openers g e = ap (λ (p : Goal). p.openers) (none_goal (λ (p : Goal). p.openers) (slice_get goals (number g))
    (ap (option_map (λ (r : GoalRow). slice_range all_openers r.openers.from r.openers.to)) (sym e) ∙ fields goal_rows goals (λ (r : GoalRow). slice_range all_openers r.openers.from r.openers.to) (λ (p : Goal). p.openers) goal_openers (number g)))

goal_suffixes : map (λ (r : GoalRow). slice_range all_suffixes r.suffixes.from r.suffixes.to) goal_rows ≡ map (λ (p : Goal). p.suffixes) goals
unfolding goal_rows goals all_suffixes
goal_suffixes = refl

suffixes_lie_all : every (λ (r : GoalRow). lies r.suffixes.from r.suffixes.to (length all_suffixes)) goal_rows ≡ true
unfolding goal_rows goals all_suffixes
suffixes_lie_all = refl

pub suffixes_are : (g : Nonterminal) (r : GoalRow) → slice_get goal_rows (number g) ≡ Some r → slice_range all_suffixes r.suffixes.from r.suffixes.to ≡ suffixes g
unfolding suffixes goal
suffixes_are g r e = some_goal (λ (p : Goal). p.suffixes) (slice_get goals (number g)) (slice_range all_suffixes r.suffixes.from r.suffixes.to)
    (ap (option_map (λ (r : GoalRow). slice_range all_suffixes r.suffixes.from r.suffixes.to)) (sym e) ∙ fields goal_rows goals (λ (r : GoalRow). slice_range all_suffixes r.suffixes.from r.suffixes.to) (λ (p : Goal). p.suffixes) goal_suffixes (number g))

pub suffixes_lie : (g : Nonterminal) (r : GoalRow) → slice_get goal_rows (number g) ≡ Some r → (r.suffixes.from ≤ r.suffixes.to) × (r.suffixes.to ≤ length all_suffixes)
suffixes_lie g r e = lies_use r.suffixes.from r.suffixes.to (length all_suffixes) (every_at (λ (r : GoalRow). lies r.suffixes.from r.suffixes.to (length all_suffixes)) goal_rows suffixes_lie_all (number g) r e)

pub none_suffixes : (g : Nonterminal) → slice_get goal_rows (number g) ≡ None → suffixes g ≡ []
unfolding suffixes goal
none_suffixes g e = ap (λ (p : Goal). p.suffixes) (none_goal (λ (p : Goal). p.suffixes) (slice_get goals (number g))
    (ap (option_map (λ (r : GoalRow). slice_range all_suffixes r.suffixes.from r.suffixes.to)) (sym e) ∙ fields goal_rows goals (λ (r : GoalRow). slice_range all_suffixes r.suffixes.from r.suffixes.to) (λ (p : Goal). p.suffixes) goal_suffixes (number g)))

goal_shuns : map (λ (r : GoalRow). r.shuns) goal_rows ≡ map (λ (p : Goal). p.shuns) goals
unfolding goal_rows goals
goal_shuns = refl

pub shunned_is : (g : Nonterminal) (r : GoalRow) → slice_get goal_rows (number g) ≡ Some r → r.shuns ≡ shunned g
unfolding shunned goal
shunned_is g r e = some_goal (λ (p : Goal). p.shuns) (slice_get goals (number g)) r.shuns
    (ap (option_map (λ (r : GoalRow). r.shuns)) (sym e) ∙ fields goal_rows goals (λ (r : GoalRow). r.shuns) (λ (p : Goal). p.shuns) goal_shuns (number g))

pub none_shunned : (g : Nonterminal) → slice_get goal_rows (number g) ≡ None → shunned g ≡ None
unfolding shunned goal
none_shunned g e = ap (λ (p : Goal). p.shuns) (none_goal (λ (p : Goal). p.shuns) (slice_get goals (number g))
    (ap (option_map (λ (r : GoalRow). r.shuns)) (sym e) ∙ fields goal_rows goals (λ (r : GoalRow). r.shuns) (λ (p : Goal). p.shuns) goal_shuns (number g)))

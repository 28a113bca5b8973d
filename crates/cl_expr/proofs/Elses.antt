-- The `else` of an `if`: where it stands, and what comes after it.
use Rattle.std.proofs.Common.{◌≡◌, ℕ, zero, suc, List, [], ◌∷◌, refl, sym, ◌∙◌, ap, subst, Bool, true, false}
use Rattle.std.specs.Prelude.{Some, None, slice_get}
use Rattle.std.proofs.lemmas.Bool.{false≢true}
use Rattle.cl_tree.specs.declared.class.Class.{Class}
use Rattle.cl_tree.specs.declared.class.Class.TheVariants as cl
use Rattle.cl_tree.specs.declared.nonterminal.Nonterminal.TheVariants as nt
use Rattle.cl_tree.specs.declared.grammar.Terminal.TheVariants as te
use Rattle.cl_tree.specs.declared.grammar.Act.TheVariants as ac
use Rattle.cl_tree.specs.declared.grammar.Symbol.TheVariants.{Token, Node}
use Rattle.cl_tree.specs.declared.lexeme.Lexeme.{Lexeme}
use Rattle.cl_tree.specs.declared.scope.Scope.{Scope}
use Rattle.cl_tree.specs.Derives.{Has}
use Rattle.cl_expr.specs.declared.table.Edge.{Edge}
use Rattle.cl_expr.specs.declared.table.Label.{Label}
use Rattle.cl_expr.specs.code.Table.{places, place, edges, name_of, bars, flat, home, turning, turned, turn, is_named, next_by, before_else, after_else, past_else}
use Rattle.cl_expr.specs.code.Paths.{Ended, At}
use Rattle.cl_expr.proofs.Checks.{none_not, some_is}
use Rattle.cl_expr.proofs.Conditions.{else_place}

abbrev pub else_edge : Edge
else_edge = record { before = None; symbol = Token (te.Is cl.Else) ac.Close; next = after_else }

abbrev pub statement_edge : Edge
statement_edge = record { before = None; symbol = Node nt.Statement; next = past_else }

else_edges : edges before_else ≡ else_edge ∷ []
unfolding places place edges
else_edges = refl

statement_edges : edges after_else ≡ statement_edge ∷ []
unfolding places place edges
statement_edges = refl

else_turns : turning after_else ≡ None
unfolding places place turning
else_turns = refl

pub else_unnamed : name_of after_else ≡ None
unfolding places place name_of
else_unnamed = refl

else_bars : bars after_else ≡ []
unfolding places place bars
else_bars = refl

else_label : (name_of before_else ≡ None) → ⊥
unfolding places place name_of
else_label e = none_not (sym e)

else_home : flat (home before_else) ≡ false
unfolding places place flat home
else_home = refl

-- nothing follows the statement
past_edges : (b : Bool) → edges (turned (turning past_else) past_else b) ≡ []
unfolding places place edges turning
past_edges true = refl
past_edges false = refl

past_bars : (b : Bool) → bars (turned (turning past_else) past_else b) ≡ []
unfolding places place bars turning
past_bars true = refl
past_bars false = refl

pub nothing_past : (y : ℕ) → edges (turn past_else y) ≡ []
unfolding turn
nothing_past y = past_edges (is_named y)

pub free_past : (y : ℕ) → bars (turn past_else y) ≡ []
unfolding turn
free_past y = past_bars (is_named y)

pub else_turn : (y : ℕ) → turn after_else y ≡ after_else
unfolding turn
else_turn y = rw else_turns refl

only_one : {X : Type 0} (x y : X) → Has (x ∷ []) y → y ≡ x
only_one {X} x y has = go has.0 has.1
  where
    go : (i : ℕ) → slice_get (x ∷ []) i ≡ Some y → y ≡ x
    go zero e = sym (some_is e)
    go (suc i) e = absurd (none_not e)

pub else_has : (q : ℕ) → q ≡ before_else → Has (edges q) else_edge
else_has q is = (0, ap (λ (v : ℕ). slice_get (edges v) 0) is ∙ ap (λ (es : List Edge). slice_get es 0) else_edges)

pub else_first : (q : ℕ) (e : Edge) → q ≡ before_else → Has (edges q) e → e ≡ else_edge
else_first q e is has = only_one else_edge e (subst (λ (es : List Edge). Has es e) (ap edges is ∙ else_edges) has)

pub statement_has : Has (edges after_else) statement_edge
statement_has = (0, ap (λ (es : List Edge). slice_get es 0) statement_edges)

pub statement_first : (e : Edge) → Has (edges after_else) e → e ≡ statement_edge
statement_first e has = only_one statement_edge e (subst (λ (es : List Edge). Has es e) statement_edges has)

pub else_named : (q : ℕ) → q ≡ before_else → name_of q ≡ None → ⊥
else_named q is e = else_label (sym (ap name_of is) ∙ e)

pub none_barred : (k : Class) → Has (bars after_else) k → ⊥
none_barred k has = none_not (subst (λ (v : List Class). slice_get v has.0 ≡ Some k) else_bars has.1)

pub none_barred_past : (y : ℕ) (k : Class) → Has (bars (turn past_else y)) k → ⊥
none_barred_past y k has = none_not (subst (λ (v : List Class). slice_get v has.0 ≡ Some k) (free_past y) has.1)

-- what holds no block bars no `else`
pub flat_else : (z : ℕ) → flat (home z) ≡ true → Has (bars z) cl.Else → ⊥
flat_else z is has = (let e : z ≡ before_else = else_place z has in false≢true (sym else_home ∙ sym (ap (λ (v : ℕ). flat (home v)) e) ∙ is))

pub ended_fit : (cs : List Lexeme) (h k : ℕ) (s : Scope) (z to : ℕ) (n : Label) → flat (home z) ≡ true → Ended (At cs h) cs s z to n → Ended (At cs k) cs s z to n
ended_fit cs h k s z to n is e = (e.0, λ c token bar. absurd (flat_else z is (subst (Has (bars z)) (e.1 c token bar).0 bar)))

-- the place after the statement, as the code finds it
pub next_else : (q : ℕ) → Has (bars q) cl.Else → next_by (slice_get (edges (next_by (slice_get (edges q) 0) q)) 0) (next_by (slice_get (edges q) 0) q) ≡ past_else
next_else q bar =
    let first : next_by (slice_get (edges q) 0) q ≡ after_else = ap (λ (v : ℕ). next_by (slice_get (edges v) 0) v) (else_place q bar) ∙ ap (λ (es : List Edge). next_by (slice_get es 0) before_else) else_edges in
    ap (λ (v : ℕ). next_by (slice_get (edges v) 0) v) first ∙ ap (λ (es : List Edge). next_by (slice_get es 0) after_else) statement_edges

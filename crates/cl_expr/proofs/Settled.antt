-- What can be settled by looking: which tokens begin what, and which production goes on.
use Rattle.std.proofs.Common.{◌≡◌, ℕ, zero, suc, List, [], ◌∷◌, ◌⊎◌, inl, inr, refl, sym, ◌∙◌, ap, subst, Bool, true, false}
use Rattle.std.specs.Prelude.{Option, Some, None, slice_get}
use Rattle.std.proofs.Math.Dec.{eqb}
use Rattle.std.proofs.lemmas.Bool.{eq-eqb, eqb-true, false≢true}
use Rattle.cl_tree.specs.declared.class.Class.{Class}
use Rattle.cl_tree.specs.declared.grammar.Symbol.{Symbol}
use Rattle.cl_tree.specs.declared.grammar.Symbol.TheVariants.{Token, Node, Entry}
use Rattle.cl_tree.specs.declared.grammar.Separator.{Separator}
use Rattle.cl_tree.specs.declared.grammar.Terminal.{Terminal}
use Rattle.cl_tree.specs.declared.nonterminal.Nonterminal.{Nonterminal}
use Rattle.cl_tree.specs.declared.lexeme.Lexeme.{Lexeme}
use Rattle.cl_tree.specs.declared.scope.Scope.{Scope}
use Rattle.cl_tree.specs.Grammar.{takes, shuns}
use Rattle.cl_tree.specs.Scopes.{class_at}
use Rattle.cl_tree.specs.Derives.{Has, Opened}
use Rattle.cl_expr.specs.declared.table.Edge.{Edge}
use Rattle.cl_expr.specs.declared.table.Head.{Head}
use Rattle.cl_expr.specs.code.Table.{edges, corner, kinds, firsts, entry_classes}
use Rattle.cl_expr.specs.code.Parses.{Begins, BeginsSymbol, Enters, GoesOn}
use Rattle.cl_expr.specs.code.Looks.{class_number}
use Rattle.cl_expr.proofs.All.{same_class_is}
use Rattle.cl_expr.proofs.Bars.{all_open, past_open, not_open, is_open}
use Rattle.cl_expr.proofs.Checks.{member, member_has, has_member, some_is, none_not}

-- it holds or it doesn't
abbrev pub Settled : Type 0 → Type 0
Settled P = P ⊎ (P → ⊥)

by_bool : (P : Type 0) (b : Bool) → (b ≡ true → P) → (P → b ≡ true) → Settled P
by_bool P true f g = inl (f refl)
by_bool P false f g = inr (λ p. false≢true (g p))

pub as_well : (P Q : Type 0) → (P → Q) → (Q → P) → Settled P → Settled Q
as_well P Q f g (inl p) = inl (f p)
as_well P Q f g (inr not) = inr (λ q. not (g q))

pub same_number : (a b : ℕ) → Settled (a ≡ b)
same_number a b = by_bool (a ≡ b) (eqb a b) (λ e. eqb-true a b e) (λ e. eq-eqb a b e)

pub same_class : (a b : Class) → Settled (a ≡ b)
same_class a b = by_bool (a ≡ b) (eqb (class_number a) (class_number b)) (λ e. same_class_is a b (eqb-true (class_number a) (class_number b) e)) (λ e. eq-eqb (class_number a) (class_number b) (ap class_number e))

pub has_class : (ks : List Class) (k : Class) → Settled (Has ks k)
has_class ks k = by_bool (Has ks k) (member class_number k ks) (λ e. member_has class_number same_class_is k ks e) (λ h. has_member class_number k ks h.0 h.1)

abbrev itself : ℕ → ℕ
itself n = n

pub has_place : (ns : List ℕ) (n : ℕ) → Settled (Has ns n)
has_place ns n = by_bool (Has ns n) (member itself n ns) (λ e. member_has itself (λ x y e. e) n ns e) (λ h. has_member itself n ns h.0 h.1)

-- whether one of a list is such
module _ {X : Type 0} (P : X → Type 0) (settle : (x : X) → Settled (P x)) where
  abbrev Among : List X → Type 0
  Among xs = (x : X) × Has xs x × P x

  later : (y : X) (ys : List X) → (P y → ⊥) → (Among ys → ⊥) → (x : X) (i : ℕ) → slice_get (y ∷ ys) i ≡ Some x → P x → ⊥
  later y ys not none x zero e p = not (subst P (sym (some_is e)) p)
  later y ys not none x (suc i) e p = none (x, (i, e), p)

  with_first : (y : X) (ys : List X) → Settled (P y) → Settled (Among ys) → Settled (Among (y ∷ ys))
  with_first y ys (inl p) rest = inl (y, (0, refl), p)
  with_first y ys (inr not) (inl f) = inl (f.0, (suc f.1.0, f.1.1), f.2)
  with_first y ys (inr not) (inr none) = inr (λ f. later y ys not none f.0 f.1.0 f.1.1 f.2)

  pub among : (xs : List X) → Settled ((x : X) × Has xs x × P x)
  among [] = inr (λ f. none_not f.1.1)
  among (y ∷ ys) = with_first y ys (settle y) (among ys)

begins_symbol : (x : Symbol) (k : Class) → Settled (BeginsSymbol x k)
begins_symbol (Token c a) k = has_class (takes c) k
begins_symbol (Node g) k = has_class (firsts g) k
begins_symbol Entry k = has_class entry_classes k

begins : (b : Option Separator) (x : Symbol) (k : Class) → Settled (Begins b x k)
begins None x k = begins_symbol x k
begins (Some b) x k = same_class b.class k

pub enters : (q : ℕ) (k : Class) → Settled (Enters q k)
enters q k = among (λ (e : Edge). Begins e.before e.symbol k) (λ e. begins e.before e.symbol k) (edges q)

-- a production goes on from a part of a kind
module _ (cs : List Lexeme) (w : Scope) (s y at : ℕ) where
  by_class : (c : Head) → corner s ≡ Some c → Has (kinds c.goal) y → (o : Option Class) → class_at cs w at ≡ o → Settled (GoesOn cs w s y at)
  by_class c is takes None past = inr (λ n. none_not (sym past ∙ n.token))
  by_class c is takes (Some k) token =
      as_well (Enters c.next k) (GoesOn cs w s y at)
      (λ e. record { cornered = c; is = is; takes = takes; class = k; token = token; enters = e })
      (λ n. subst (λ (v : Class). Enters c.next v) (some_is (sym n.token ∙ token)) (subst (λ (v : Head). Enters v.next n.class) (some_is (sym n.is ∙ is)) n.enters))
      (enters c.next k)

  by_kind : (c : Head) → corner s ≡ Some c → Settled (Has (kinds c.goal) y) → Settled (GoesOn cs w s y at)
  by_kind c is (inl takes) = by_class c is takes (class_at cs w at) refl
  by_kind c is (inr not) = inr (λ n. not (subst (λ (v : Head). Has (kinds v.goal) y) (some_is (sym n.is ∙ is)) n.takes))

  by_corner : (o : Option Head) → corner s ≡ o → Settled (GoesOn cs w s y at)
  by_corner None is = inr (λ n. none_not (sym is ∙ n.is))
  by_corner (Some c) is = by_kind c is (has_place (kinds c.goal) y)

  pub goes_on : Settled (GoesOn cs w s y at)
  goes_on = by_corner (corner s) refl

-- a tree of a nonterminal may begin with the token there
module _ (cs : List Lexeme) (g : Nonterminal) (s : Scope) (at : ℕ) where
  by_taken : (t : Terminal) (k : Class) → shuns g ≡ Some t → class_at cs s at ≡ Some k → Settled (Has (takes t) k) → Settled (Opened cs g s at)
  by_taken t k shun token (inl has) = inr (not_open cs g s at t k shun token has)
  by_taken t k shun token (inr not) = inl (is_open cs g s at t k shun token not)

  by_token : (t : Terminal) → shuns g ≡ Some t → (o : Option Class) → class_at cs s at ≡ o → Settled (Opened cs g s at)
  by_token t shun None past = inl (past_open cs g s at past)
  by_token t shun (Some k) token = by_taken t k shun token (has_class (takes t) k)

  by_shunned : (o : Option Terminal) → shuns g ≡ o → Settled (Opened cs g s at)
  by_shunned None shun = inl (all_open cs g s at shun)
  by_shunned (Some t) shun = by_token t shun (class_at cs s at) refl

  pub opened : Settled (Opened cs g s at)
  opened = by_shunned (shuns g) refl

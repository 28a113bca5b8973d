-- Heights, and the token with which a tree begins.
use Rattle.std.proofs.Common.{◌≡◌, ℕ, zero, suc, ◌+◌, ◌≤◌, List, [], ◌∷◌, inl, inr, arith, refl, sym, ◌∙◌, ap, subst}
use Rattle.std.specs.Prelude.{Option, Some, None, true}
use Rattle.std.proofs.lemmas.Bool.{false≢true}
use Rattle.cl_tree.specs.declared.class.Class.{Class}
use Rattle.cl_tree.specs.declared.nonterminal.Nonterminal.{Nonterminal}
use Rattle.cl_tree.specs.declared.grammar.Symbol.{Symbol}
use Rattle.cl_tree.specs.declared.grammar.Symbol.TheVariants.{Token, Node, Entry}
use Rattle.cl_tree.specs.declared.nonterminal.Nonterminal.TheVariants as nt
use Rattle.cl_tree.specs.declared.grammar.Separator.{Separator}
use Rattle.cl_expr.specs.declared.table.Label.{Label}
use Rattle.cl_tree.specs.declared.tree.Tree.{Tree, Tree-F, out-roll-Tree, roll-out-Tree}
use Rattle.cl_tree.specs.declared.lexeme.Lexeme.{Lexeme}
use Rattle.cl_tree.specs.declared.scope.Scope.{Scope}
use Rattle.cl_tree.specs.Scopes.{class_at, pass, leave}
use Rattle.cl_expr.specs.code.Table.{name_of, scoped, flat, turn, home, kinds, firsts}
use Rattle.cl_tree.specs.Derives.{Has, start, end, parts, leaf, Opened, bad}
use Rattle.cl_expr.specs.code.Paths.{name, node, Ended, Reads, ReadsAfter, Path, Kind, At}
use Rattle.cl_expr.specs.code.Parses.{AllOf, Tall, BeginsSymbol, Begins, Enters}
use Rattle.cl_expr.proofs.Elses.{ended_fit}
use Rattle.cl_expr.proofs.Conditions.{no_name, firsts_have, symbol_flat, flat_kind, flat_edge, entry_class, firsts_entry}

-- a tree of a kind from within: what is declared at its end, and its parts
pub record Inside (cs : List Lexeme) (h : ℕ) (z : ℕ) (sa : Scope) (t : Tree) (sw : Scope) : Type 0 where
  pub state : Scope
  pub leaves : sw ≡ leave (scoped z) sa state
  pub ended : Ended (At cs h) cs state z (end t) (name t)
  pub path : Path (At cs h) h cs (home z) sa (start t) (end t) (parts t) z state

pub kind_of : (cs : List Lexeme) (h : ℕ) (z : ℕ) (sa : Scope) (t : Tree) (sw : Scope) → Kind cs (suc h) z sa t sw → Inside cs h z sa t sw
unfolding Kind
kind_of cs h z sa t sw a = record { state = a.0; leaves = a.1; ended = a.2; path = a.3 }

pub of_kind : (cs : List Lexeme) (h : ℕ) (z : ℕ) (sa : Scope) (t : Tree) (sw sv : Scope) → sw ≡ leave (scoped z) sa sv → Ended (At cs h) cs sv z (end t) (name t)
    → Path (At cs h) h cs (home z) sa (start t) (end t) (parts t) z sv → Kind cs (suc h) z sa t sw
unfolding Kind
of_kind cs h z sa t sw sv l e p = (sv, l, e, p)

pub kind_flat : (cs : List Lexeme) (z : ℕ) (sa : Scope) (t : Tree) (sw : Scope) → Kind cs 0 z sa t sw → ⊥
unfolding Kind
kind_flat cs z sa t sw a = a

pub end_leaf : (at : ℕ) → end (leaf at) ≡ at + 1
end_leaf at = ap (λ x. x.to) (out-roll-Tree (record { rule = _; choice = 0; from = at; to = at + 1; parts = [] }))

-- a tree of a kind is no higher than its bound
pub tall_leaf : (h at : ℕ) → 1 ≤ h → Tall h (leaf at)
unfolding Tall
tall_leaf zero at l = absurd (omega arith)
tall_leaf (suc h) at l = subst (λ (x : Tree-F Tree). AllOf (Tall h) x.parts) (sym (out-roll-Tree (record { rule = _; choice = 0; from = at; to = at + 1; parts = [] }))) tt

pub end_bad : (from to : ℕ) → end (bad from to) ≡ to
end_bad from to = ap (λ x. x.to) (out-roll-Tree (record { rule = _; choice = 0; from = from; to = to; parts = [] }))

pub tall_bad : (h from to : ℕ) → 1 ≤ h → Tall h (bad from to)
unfolding Tall
tall_bad zero from to l = absurd (omega arith)
tall_bad (suc h) from to l = subst (λ (x : Tree-F Tree). AllOf (Tall h) x.parts) (sym (out-roll-Tree (record { rule = _; choice = 0; from = from; to = to; parts = [] }))) tt

module _ (cs : List Lexeme) (h : ℕ) (f : (y : ℕ) (s' : Scope) (p : Tree) (w' : Scope) → Kind cs h y s' p w' → Tall h p) where
  tall_one : (x : Symbol) (y : ℕ) (s' : Scope) (at : ℕ) (p : Tree) (w' : Scope) → Reads (At cs h) h cs x y s' at p w' → Tall h p
  tall_one (Token c a) y s' at p w' r = subst (Tall h) (sym r.2) (tall_leaf h at r.1)
  tall_one (Node g) y s' at p w' r = f y s' p w' r.0.1
  tall_one Entry y s' at p w' (inl r) = f y s' p w' r.0.1
  tall_one Entry y s' at p w' (inr r) = subst (Tall h) (sym r.2) (tall_bad h at _ r.1)

  tall_after : (b : Option Separator) (x : Symbol) (y : ℕ) (s' : Scope) (at : ℕ) (p : Tree) (w' : Scope) → ReadsAfter (At cs h) h cs b x y s' at p w' → Tall h p
  tall_after None x y s' at p w' r = tall_one x y s' at p w' r
  tall_after (Some b) x y s' at p w' r = tall_one x y (pass cs s' b.act at) (at + 1) p w' r.1

  tall_path : (ps : List Tree) (q : ℕ) (s' : Scope) (at to : ℕ) (z : ℕ) (v : Scope) → Path (At cs h) h cs q s' at to ps z v → AllOf (Tall h) ps
  tall_path [] q s' at to z v s = tt
  tall_path (p ∷ ps) q s' at to z v s = (tall_after s.0.before s.0.symbol s.1 s' at p s.2 s.4, tall_path ps (turn s.0.next s.1) s.2 (end p) to z v s.5)

pub tall_zero : (t : Tree) → Tall 0 t → ⊥
unfolding Tall
tall_zero t a = a

pub tall_parts : (k : ℕ) (t : Tree) → Tall (suc k) t → AllOf (Tall k) (parts t)
unfolding Tall
tall_parts k t a = a

pub of_parts : (k : ℕ) (t : Tree) → AllOf (Tall k) (parts t) → Tall (suc k) t
unfolding Tall
of_parts k t a = a

pub kind_tall : (cs : List Lexeme) (h : ℕ) (z : ℕ) (sa : Scope) (t : Tree) (sw : Scope) → Kind cs h z sa t sw → Tall h t
kind_tall cs zero z sa t sw a = absurd (kind_flat cs z sa t sw a)
kind_tall cs (suc h) z sa t sw a =
    let i = kind_of cs h z sa t sw a in
    of_parts h t (tall_path cs h (λ y s' p w' b. kind_tall cs h y s' p w' b) (parts t) (home z) sa (start t) (end t) z i.state i.path)

pub path_tall : (cs : List Lexeme) (h : ℕ) (ps : List Tree) (q : ℕ) (sa : Scope) (at to : ℕ) (z : ℕ) (v : Scope) → Path (At cs h) h cs q sa at to ps z v → AllOf (Tall h) ps
path_tall cs h ps q sa at to z v s = tall_path cs h (λ y s' p w' b. kind_tall cs h y s' p w' b) ps q sa at to z v s

pub tall_some : (k : ℕ) (t : Tree) → Tall k t → 1 ≤ k
tall_some zero t a = absurd (tall_zero t a)
tall_some (suc k) t a = omega arith

all_map : {P Q : Tree → Type 0} (ts : List Tree) → ((t : Tree) → P t → Q t) → AllOf P ts → AllOf Q ts
all_map [] f a = tt
all_map (t ∷ ts) f a = (f t a.0, all_map ts f a.1)

pub tall_le : (h k : ℕ) (t : Tree) → h ≤ k → Tall h t → Tall k t
tall_le zero k t le a = absurd (tall_zero t a)
tall_le (suc h) zero t le a = absurd (omega arith)
tall_le (suc h) (suc k) t le a = of_parts k t (all_map (parts t) (λ p x. tall_le h k p (omega arith) x) (tall_parts h t a))

pub all_tall_le : (h k : ℕ) (ts : List Tree) → h ≤ k → AllOf (Tall h) ts → AllOf (Tall k) ts
all_tall_le h k ts le a = all_map ts (λ p x. tall_le h k p le x) a

-- what holds no block derives by any bound that isn't below its height
module _ (cs : List Lexeme) (h k : ℕ) (f : (y : ℕ) (sa : Scope) (p : Tree) (sw : Scope) → flat (home y) ≡ true → Tall k p → Kind cs h y sa p sw → Kind cs k y sa p sw) where
  reads_fit : (x : Symbol) (y : ℕ) (sa : Scope) (at : ℕ) (p : Tree) (sw : Scope) → symbol_flat x ≡ true → Tall k p → Reads (At cs h) h cs x y sa at p sw → Reads (At cs k) k cs x y sa at p sw
  reads_fit (Token c a) y sa at p sw is tall r = (r.0, tall_some k p tall, r.2, r.3, r.4)
  reads_fit Entry y sa at p sw is tall r = absurd (false≢true is)
  reads_fit (Node g) y sa at p sw is tall r = ((r.0.0, f y sa p sw (flat_kind g y is r.0.0) tall r.0.1, r.0.2), r.1)

  after_fit : (b : Option Separator) (x : Symbol) (y : ℕ) (sa : Scope) (at : ℕ) (p : Tree) (sw : Scope) → symbol_flat x ≡ true → Tall k p → ReadsAfter (At cs h) h cs b x y sa at p sw
      → ReadsAfter (At cs k) k cs b x y sa at p sw
  after_fit None x y sa at p sw is tall r = reads_fit x y sa at p sw is tall r
  after_fit (Some b) x y sa at p sw is tall r = (r.0, reads_fit x y (pass cs sa b.act at) (at + 1) p sw is tall r.1)

  fit_path : (ps : List Tree) (q : ℕ) (sa : Scope) (at to : ℕ) (z : ℕ) (sv : Scope) → flat q ≡ true → AllOf (Tall k) ps → Path (At cs h) h cs q sa at to ps z sv → Path (At cs k) k cs q sa at to ps z sv
  fit_path [] q sa at to z sv is tall s = s
  fit_path (p ∷ ps) q sa at to z sv is tall s = (
      let e = flat_edge q s.0 s.1 is s.3 in
      (s.0, s.1, s.2, s.3, after_fit s.0.before s.0.symbol s.1 sa at p s.2 e.0 tall.0 s.4, fit_path ps (turn s.0.next s.1) s.2 (end p) to z sv e.1 tall.1 s.5))

pub kind_fit : (cs : List Lexeme) (h k : ℕ) (z : ℕ) (sa : Scope) (t : Tree) (sw : Scope) → flat (home z) ≡ true → Tall k t → Kind cs h z sa t sw → Kind cs k z sa t sw
kind_fit cs h zero z sa t sw is tall a = absurd (tall_zero t tall)
kind_fit cs zero (suc k) z sa t sw is tall a = absurd (kind_flat cs z sa t sw a)
kind_fit cs (suc h) (suc k) z sa t sw is tall a =
    let i = kind_of cs h z sa t sw a in
    of_kind cs k z sa t sw i.state i.leaves (ended_fit cs h k i.state z (end t) (name t) is i.ended)
    (fit_path cs h k (λ y s' p w' fl tl b. kind_fit cs h k y s' p w' fl tl b) (parts t) (home z) sa (start t) (end t) z i.state is (tall_parts k t tall) i.path)

pub path_fit : (cs : List Lexeme) (h k : ℕ) (ps : List Tree) (q : ℕ) (sa : Scope) (at to : ℕ) (z : ℕ) (sv : Scope) → flat q ≡ true → AllOf (Tall k) ps → Path (At cs h) h cs q sa at to ps z sv
    → Path (At cs k) k cs q sa at to ps z sv
path_fit cs h k ps q sa at to z sv is tall s = fit_path cs h k (λ y s' p w' fl tl b. kind_fit cs h k y s' p w' fl tl b) ps q sa at to z sv is tall s

-- the token with which a tree begins
pub record First (cs : List Lexeme) (sa : Scope) (at : ℕ) (P : Class → Type 0) : Type 0 where
  pub class : Class
  pub token : class_at cs sa at ≡ Some class
  pub begins : P class

abbrev FirstOf : List Lexeme → ℕ → Type 0
FirstOf cs h = (g : Nonterminal) (z : ℕ) (sa : Scope) (t : Tree) (sw : Scope) → At cs h g z sa t sw → First cs sa (start t) (Has (firsts g))

symbol_by : (cs : List Lexeme) (h : ℕ) → FirstOf cs h
    → (x : Symbol) (y : ℕ) (sa : Scope) (at : ℕ) (p : Tree) (sw : Scope) → Reads (At cs h) h cs x y sa at p sw → First cs sa at (BeginsSymbol x)
symbol_by cs h f (Token c a) y sa at p sw r = record { class = r.3.0; token = r.3.1; begins = r.3.2 }
symbol_by cs h f (Node b) y sa at p sw r =
    let o = f b y sa p sw r.0 in
    record { class = o.class; token = subst (λ (i : ℕ). class_at cs sa i ≡ Some o.class) r.1 o.token; begins = o.begins }
symbol_by cs h f Entry y sa at p sw (inl r) =
    let o = f nt.BlockItem y sa p sw r.0 in
    record { class = o.class; token = subst (λ (i : ℕ). class_at cs sa i ≡ Some o.class) r.1 o.token; begins = firsts_entry nt.BlockItem o.class o.begins }
symbol_by cs h f Entry y sa at p sw (inr r) = record { class = r.4.0; token = r.4.1; begins = entry_class r.4.0 r.4.2 }

reads_by : (cs : List Lexeme) (h : ℕ) → FirstOf cs h
    → (b : Option Separator) (x : Symbol) (y : ℕ) (sa : Scope) (at : ℕ) (p : Tree) (sw : Scope) → ReadsAfter (At cs h) h cs b x y sa at p sw → First cs sa at (Begins b x)
reads_by cs h f None x y sa at p sw r = symbol_by cs h f x y sa at p sw r
reads_by cs h f (Some b) x y sa at p sw r = record { class = b.class; token = r.0; begins = refl }

begins_by : (cs : List Lexeme) (h : ℕ) → FirstOf cs h
    → (g : Nonterminal) (z : ℕ) (sa : Scope) (at to : ℕ) (n : Label) (sv : Scope) → Has (kinds g) z → Opened cs g sa at → (ps : List Tree) → Ended (At cs h) cs sv z to n → Path (At cs h) h cs (home z) sa at to ps z sv → First cs sa at (Has (firsts g))
begins_by cs h f g z sa at to n sv k begun [] e s = absurd (no_name z n (subst (λ (q : ℕ). name_of q ≡ Some n) (sym s.1) e.0))
begins_by cs h f g z sa at to n sv k begun (p ∷ ps) e s =
    let o = reads_by cs h f s.0.before s.0.symbol s.1 sa at p s.2 s.4 in
    record { class = o.class; token = o.token; begins = firsts_have g z o.class k (s.0, s.3, o.begins) (begun o.class o.token) }

pub first_class : (cs : List Lexeme) (h : ℕ) (g : Nonterminal) (z : ℕ) (sa : Scope) (t : Tree) (sw : Scope) → At cs h g z sa t sw → First cs sa (start t) (Has (firsts g))
first_class cs zero g z sa t sw a = absurd (kind_flat cs z sa t sw a.1)
first_class cs (suc h) g z sa t sw a =
    let b = kind_of cs h z sa t sw a.1 in
    begins_by cs h (λ b y s' p w' d. first_class cs h b y s' p w' d) g z sa (start t) (end t) (name t) b.state a.0 a.2 (parts t) b.ended b.path

pub reads_first : (cs : List Lexeme) (h : ℕ) (b : Option Separator) (x : Symbol) (y : ℕ) (sa : Scope) (at : ℕ) (p : Tree) (sw : Scope) → ReadsAfter (At cs h) h cs b x y sa at p sw → First cs sa at (Begins b x)
reads_first cs h b x y sa at p sw r = reads_by cs h (λ b y s' p w' d. first_class cs h b y s' p w' d) b x y sa at p sw r

pub path_enters : (cs : List Lexeme) (h : ℕ) (q : ℕ) (sa : Scope) (at to : ℕ) (p : Tree) (ps : List Tree) (z : ℕ) (sv : Scope) → Path (At cs h) h cs q sa at to (p ∷ ps) z sv → First cs sa at (Enters q)
path_enters cs h q sa at to p ps z sv s =
    let f = reads_first cs h s.0.before s.0.symbol s.1 sa at p s.2 s.4 in
    record { class = f.class; token = f.token; begins = (s.0, s.3, f.begins) }

-- a tree is known by its record
pub node_is : (t : Tree) (at : ℕ) → start t ≡ at → node (name t) at (end t) (parts t) ≡ t
node_is t at e = ap (λ (i : ℕ). node (name t) i (end t) (parts t)) (sym e) ∙ roll-out-Tree t

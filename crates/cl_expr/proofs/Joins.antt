-- Declaration specifiers before others.
use Rattle.std.proofs.Common.{◌≡◌, ℕ, suc, ◌-◌, ◌≤◌, arith, List, [], ◌∷◌, ◌++◌, ◌⊎◌, inl, inr, refl, sym, ◌∙◌, ap, subst, Bool, true, false, not, ◌&&◌, ◌||◌}
use Rattle.std.specs.Prelude.{Option, Some, None, Result, Ok, Err, IfOk, IfSome}
use Rattle.cl_base.specs.declared.memory.Memory.{Memory}
use Rattle.std.proofs.Math.Dec.{eqb}
use Rattle.std.proofs.lemmas.Bool.{eqb-true, eq-eqb, and_parts, or_cases, false≢true}
use Rattle.cl_tree.specs.declared.class.Class.{Class}
use Rattle.cl_tree.specs.declared.class.Class.TheVariants as cl
use Rattle.cl_tree.specs.declared.nonterminal.Nonterminal.{Nonterminal}
use Rattle.cl_tree.specs.declared.nonterminal.Nonterminal.TheVariants as nt
use Rattle.cl_tree.specs.declared.grammar.Symbol.{Symbol}
use Rattle.cl_tree.specs.declared.grammar.Symbol.TheVariants.{Token, Node, Entry}
use Rattle.cl_tree.specs.declared.grammar.Separator.{Separator}
use Rattle.cl_tree.specs.declared.tree.Tree.{Tree, Tree-F, out-Tree, out-roll-Tree}
use Rattle.cl_tree.specs.declared.lexeme.Lexeme.{Lexeme}
use Rattle.cl_tree.specs.declared.scope.Scope.{Scope}
use Rattle.cl_tree.specs.Scopes.{class_at, leave, empty}
use Rattle.cl_tree.specs.Grammar.{shuns}
use Rattle.cl_tree.specs.Derives.{Has, start, end, parts, Opened, SpansFrom, External, barred}
use Rattle.cl_expr.specs.declared.table.Edge.{Edge}
use Rattle.cl_expr.specs.declared.table.Label.{Label}
use Rattle.cl_expr.specs.declared.table.Ways.{Ways}
use Rattle.cl_expr.specs.declared.reader.Found.{Found}
use Rattle.cl_expr.specs.code.Table.{places, place, edges, name_of, turning, turn, turned, is_named, home, kinds, openers, firsts, goes, goal, goals, number, scoped, entry_classes}
use Rattle.cl_expr.specs.code.Looks.{class_number}
use Rattle.cl_expr.specs.code.Paths.{name, node, Ended, Reads, ReadsAfter, Path, Kind, At}
use Rattle.cl_expr.specs.code.Parses.{Begins, Enters, Parses, Before, Chain, Led, of_type, other, begun, typed, untyped, type_words}
use Rattle.cl_expr.proofs.All.{same_goal_is}
use Rattle.cl_expr.proofs.Bars.{all_open}
use Rattle.cl_expr.proofs.Bridge.{of_derives, to_derives}
use Rattle.cl_expr.proofs.Checks.{every, some, member_left, member_right, when, when_use, is_some, not_use, not_false, none_is, none_not, some_is, every_has, some_at, member_has}
use Rattle.cl_expr.proofs.Conditions.{among, among_has, beginners, begins_among, enters_among, entering, has_among, kind_in, no_name, one_edge, place_number}
use Rattle.cl_expr.proofs.Heights.{Inside, kind_of, of_kind, first_class, path_enters, reads_first}

-- what begins specifiers that may stand behind others
abbrev starts : List Class
starts = type_words ++ firsts nt.OtherSpecifier

-- an edge that a nonterminal stands at, after nothing else
abbrev is_node : Nonterminal → Symbol → Bool
is_node g (Token c a) = false
is_node g (Node f) = eqb (number f) (number g)
is_node g Entry = false

-- and behind which none of these begins anything
abbrev is_plain : Nonterminal → Edge → Bool
is_plain g e = not (is_some e.before) && is_node g e.symbol

abbrev is_quiet : Edge → Bool
is_quiet e = not (is_some (name_of e.next)) && (not (is_some (turning e.next)) && every (λ k. not (among k (entering e.next))) starts)

abbrev leads : Nonterminal → ℕ → Bool
leads g q = every (λ e. when (some (λ k. among k (beginners e.before e.symbol)) starts) (is_plain g e && is_quiet e)) (edges q)

definitions_checked : every (λ z. leads nt.DeclarationSpecifiers (home z)) (kinds nt.FunctionDefinition) ≡ true
unfolding places place edges name_of turning home kinds firsts goal goals entry_classes
definitions_checked = refl

declarations_checked : every (λ z. leads nt.DeclarationSpecifiers (home z)) (kinds nt.Declaration) ≡ true
unfolding places place edges name_of turning home kinds firsts goal goals entry_classes
declarations_checked = refl

items_checked : every (λ z. leads nt.BlockSpecifiers (home z)) (kinds nt.BlockItem) ≡ true
unfolding places place edges name_of turning home kinds firsts goal goals entry_classes
items_checked = refl

-- the kinds of specifiers begin at one place, and aren't blocks
abbrev c_specifiers : ℕ → Bool
c_specifiers z = eqb (home z) begun && not (scoped z)

specifiers_checked : every c_specifiers (kinds nt.DeclarationSpecifiers) ≡ true
unfolding places place home scoped kinds openers goal goals
specifiers_checked = refl

block_checked : every c_specifiers (kinds nt.BlockSpecifiers) ≡ true
unfolding places place home scoped kinds openers goal goals
block_checked = refl

abbrev edge_other : Edge
edge_other = record { before = None; symbol = Node nt.OtherSpecifier; next = untyped }

abbrev edge_type : Edge
edge_type = record { before = None; symbol = Node nt.TypeSpecifier; next = typed }

abbrev edge_later : Edge
edge_later = record { before = None; symbol = Node nt.LaterSpecifier; next = typed }

has_other : Has (edges untyped) edge_other
unfolding places place edges kinds goal goals
has_other = (0, refl)

has_type : Has (edges untyped) edge_type
unfolding places place edges kinds goal goals
has_type = (1, refl)

has_later : Has (edges typed) edge_later
unfolding places place edges kinds goal goals
has_later = (0, refl)

same_edges : edges begun ≡ edges untyped
unfolding places place edges kinds openers goal goals
same_edges = refl

untyped_turns : turning untyped ≡ None
unfolding places place turning kinds goal goals
untyped_turns = refl

typed_turns : turning typed ≡ None
unfolding places place turning kinds goal goals
typed_turns = refl

-- specifiers as others, behind others
types_checked : every (λ y. kind_in y (kinds nt.LaterSpecifier) || kind_in y (kinds nt.TypedefName)) (kinds nt.TypeSpecifier) ≡ true
unfolding kinds goal goals
types_checked = refl

names_checked : every (λ k. not (among k (firsts nt.TypedefName))) type_words ≡ true
unfolding firsts goal goals
names_checked = refl

words_checked : every (λ k. among k (firsts nt.TypeSpecifier)) type_words ≡ true
unfolding firsts goal goals
words_checked = refl

first_checked : every (λ y. kind_in y (kinds nt.TypeSpecifier)) (kinds nt.LaterTypeSpecifier) ≡ true
unfolding kinds goal goals
first_checked = refl

others_checked : every (λ y. kind_in y (kinds nt.LaterSpecifier)) (kinds nt.OtherSpecifier) ≡ true
unfolding kinds goal goals
others_checked = refl

others_stop : goes nt.OtherSpecifier ≡ []
unfolding goes goal goals
others_stop = refl

later_checked : every (λ y. kind_in y (kinds nt.LaterSpecifier)) (kinds nt.LaterTypeSpecifier) ≡ true
unfolding kinds goal goals
later_checked = refl

labels_checked : every (λ k. not (among k (barred (shuns nt.BlockSpecifiers)))) (firsts nt.LaterSpecifier) ≡ true
unfolding shuns firsts goal goals
labels_checked = refl

open_item : shuns nt.BlockItem ≡ None
unfolding shuns
open_item = refl

open_definition : shuns nt.FunctionDefinition ≡ None
unfolding shuns
open_definition = refl

open_declaration : shuns nt.Declaration ≡ None
unfolding shuns
open_declaration = refl

open_specifiers : shuns nt.DeclarationSpecifiers ≡ None
unfolding shuns
open_specifiers = refl

open_type : shuns nt.TypeSpecifier ≡ None
unfolding shuns
open_type = refl

open_later : shuns nt.LaterSpecifier ≡ None
unfolding shuns
open_later = refl

open_name : shuns nt.TypedefName ≡ None
unfolding shuns
open_name = refl

node_of : (g : Nonterminal) (x : Symbol) → is_node g x ≡ true → x ≡ Node g
node_of g (Token c a) t = absurd (false≢true t)
node_of g (Node f) t = ap Node (same_goal_is f g (eqb-true (number f) (number g) t))
node_of g Entry t = absurd (false≢true t)

-- the tree of a node has what it is made of
rolled : (n : Label) (from to : ℕ) (ps : List Tree) → out-Tree (node n from to ps) ≡ record { rule = n.rule; choice = n.choice; from = from; to = to; parts = ps }
rolled n from to ps = out-roll-Tree (record { rule = n.rule; choice = n.choice; from = from; to = to; parts = ps })

-- it is of a kind by its parts
kind_node : (cs : List Lexeme) (h : ℕ) (n : Label) (from to : ℕ) (ps : List Tree) (z : ℕ) (sa sw sv : Scope) → sw ≡ leave (scoped z) sa sv → Ended (At cs h) cs sv z to n
    → Path (At cs h) h cs (home z) sa from to ps z sv → Kind cs (suc h) z sa (node n from to ps) sw
kind_node cs h n from to ps z sa sw sv leaves ended path =
    of_kind cs h z sa (node n from to ps) sw sv leaves
    (subst (λ (x : Tree-F Tree). Ended (At cs h) cs sv z x.to (record { rule = x.rule; choice = x.choice })) (sym (rolled n from to ps)) ended)
    (subst (λ (x : Tree-F Tree). Path (At cs h) h cs (home z) sa x.from x.to x.parts z sv) (sym (rolled n from to ps)) path)

kind_has : (z : ℕ) (zs : List ℕ) → kind_in z zs ≡ true → Has zs z
kind_has z zs t = member_has place_number (λ a b e. e) z zs t

turn_none : (q y : ℕ) → turning q ≡ None → turn q y ≡ q
unfolding turn
turn_none q y e = ap (λ (o : Option Ways). turned o q (is_named y)) e

-- a part at a plain edge
plain_read : (cs : List Lexeme) (g : Nonterminal) (h : ℕ) (b : Option Separator) (x : Symbol) (y : ℕ) (sa : Scope) (at : ℕ) (p : Tree) (w : Scope) → not (is_some b) ≡ true → x ≡ Node g
    → ReadsAfter (At cs h) h cs b x y sa at p w → At cs h g y sa p w × (start p ≡ at)
plain_read cs g h None x y sa at p w t e r = subst (λ (u : Symbol). Reads (At cs h) h cs u y sa at p w) e r
plain_read cs g h (Some b) x y sa at p w t e r = absurd (false≢true t)

plain_write : (cs : List Lexeme) (g : Nonterminal) (h : ℕ) (b : Option Separator) (x : Symbol) (y : ℕ) (sa : Scope) (at : ℕ) (p : Tree) (w : Scope) → not (is_some b) ≡ true → x ≡ Node g
    → At cs h g y sa p w × (start p ≡ at) → ReadsAfter (At cs h) h cs b x y sa at p w
plain_write cs g h None x y sa at p w t e r = subst (λ (u : Symbol). Reads (At cs h) h cs u y sa at p w) (sym e) r
plain_write cs g h (Some b) x y sa at p w t e r = absurd (false≢true t)

-- a part is what was found
here : (cs : List Lexeme) (h : ℕ) (s : Scope) (g : Nonterminal) (at : ℕ) (f : Found) → Parses cs h s g at (Some f) → At cs h g f.place s f.tree f.scope × (start f.tree ≡ at)
here cs h s g at f p = (let found = p.found in ((found.1, found.0.kind, subst (Opened cs g s) (sym found.2) found.3), found.2))

-- the token with which it begins
first_here : (cs : List Lexeme) (h : ℕ) (s : Scope) (g : Nonterminal) (at y : ℕ) (p : Tree) (w : Scope) → At cs h g y s p w → start p ≡ at → (k : Class) × (class_at cs s at ≡ Some k) × Has (firsts g) k
first_here cs h s g at y p w a e = (let f = first_class cs h g y s p w a in (f.class, subst (λ (i : ℕ). class_at cs s i ≡ Some f.class) e f.token, f.begins))

later_other : (cs : List Lexeme) (h y : ℕ) (s : Scope) (p : Tree) (w : Scope) → At cs h nt.OtherSpecifier y s p w → At cs h nt.LaterSpecifier y s p w
later_other cs h y s p w a =
    (kind_has y (kinds nt.LaterSpecifier) (every_has (λ v. kind_in v (kinds nt.LaterSpecifier)) (kinds nt.OtherSpecifier) others_checked y a.0), a.1, all_open cs nt.LaterSpecifier s (start p) open_later)

-- a type specifier that is no typedef name may stand behind others
later_type : (cs : List Lexeme) (h y : ℕ) (s : Scope) (at : ℕ) (p : Tree) (w : Scope) (k : Class) → class_at cs s at ≡ Some k → Has type_words k → At cs h nt.TypeSpecifier y s p w → start p ≡ at
    → At cs h nt.LaterSpecifier y s p w
later_type cs h y s at p w k token t a e = (
  elim (or_cases (kind_in y (kinds nt.LaterSpecifier)) (kind_in y (kinds nt.TypedefName)) (every_has (λ v. kind_in v (kinds nt.LaterSpecifier) || kind_in v (kinds nt.TypedefName)) (kinds nt.TypeSpecifier) types_checked y a.0)) [
    | inl x ↦ kind_has y (kinds nt.LaterSpecifier) x
    | inr x ↦ absurd (not_name x)
  ],
  a.1,
  all_open cs nt.LaterSpecifier s (start p) open_later,
)
  where
    not_name : kind_in y (kinds nt.TypedefName) ≡ true → ⊥
    not_name x =
        let f = first_here cs h s nt.TypedefName at y p w (kind_has y (kinds nt.TypedefName) x, a.1, all_open cs nt.TypedefName s (start p) open_name) e in
        let same : f.0 ≡ k = some_is (sym f.1 ∙ token) in
        not_use (among k (firsts nt.TypedefName)) (every_has (λ c. not (among c (firsts nt.TypedefName))) type_words names_checked k t)
        (has_among k (firsts nt.TypedefName) (subst (Has (firsts nt.TypedefName)) same f.2))

type_starts : (k : Class) → Has type_words k → among k starts ≡ true
type_starts k t = member_left class_number k type_words (firsts nt.OtherSpecifier) (has_among k type_words t)

other_starts : (k : Class) → Has (firsts nt.OtherSpecifier) k → among k starts ≡ true
other_starts k t = member_right class_number k type_words (firsts nt.OtherSpecifier) (has_among k (firsts nt.OtherSpecifier) t)

-- no token of a list is there
abbrev Quiet : List Lexeme → Scope → ℕ → Type 0
Quiet cs s at = (k : Class) → class_at cs s at ≡ Some k → among k starts ≡ true → ⊥

module _ (cs : List Lexeme) (h : ℕ) where
  -- the token from which specifiers lead to one of a type
  led_starts : (a b : Scope) (at : ℕ) → Led cs h a b at → (k : Class) × (class_at cs b at ≡ Some k) × (among k starts ≡ true)
  led_starts a b at (of_type k token t) = (k, token, type_starts k t)
  led_starts a b at (other this that pa pb e l) =
      let p = here cs h b nt.OtherSpecifier at that pb in
      let f = first_here cs h b nt.OtherSpecifier at that.place that.tree that.scope p.0 p.1 in
      (f.0, f.1, other_starts f.0 f.2)

  -- the first part of specifiers, by the token with which it begins
  first_part : (g : Nonterminal) (e : Edge) (q : ℕ) (s : Scope) (at to : ℕ) (p : Tree) (ps : List Tree) (z : ℕ) (v : Scope) (k : Class) → Has (edges q) e → class_at cs s at ≡ Some k → Begins e.before e.symbol k
      → (path : Path (At cs h) h cs q s at to (p ∷ ps) z v) → path.0 ≡ e
  first_part g e q s at to p ps z v k has token begins path =
      let f = reads_first cs h path.0.before path.0.symbol path.1 s at p path.2 path.4 in
      let same : f.class ≡ k = some_is (sym f.token ∙ token) in
      one_edge q path.0 e k path.3 (subst (Begins path.0.before path.0.symbol) same f.begins) has begins

  -- specifiers from where none was of a type are ones behind one of a type
  shift : (a b : Scope) (at : ℕ) → Led cs h a b at → (to : ℕ) (ps : List Tree) (z : ℕ) (v : Scope) → Path (At cs h) h cs untyped b at to ps z v → Quiet cs v to → (rest : List Tree) × Path (At cs h) h cs typed a at to rest z v
  shift a b at l to [] z v path quiet =
      let k = led_starts a b at l in
      absurd (quiet k.0 (subst (λ (i : ℕ). class_at cs v i ≡ Some k.0) path.0 (subst (λ (s : Scope). class_at cs s at ≡ Some k.0) path.2 k.1)) k.2)
  shift a b at (of_type k token t) to (p ∷ ps) z v path quiet =
      let begins : Has (firsts nt.TypeSpecifier) k = among_has k (firsts nt.TypeSpecifier) (every_has (λ c. among c (firsts nt.TypeSpecifier)) type_words words_checked k t) in
      let is = first_part nt.TypeSpecifier edge_type untyped b at to p ps z v k has_type token begins path in
      let r : At cs h nt.TypeSpecifier path.1 b p path.2 × (start p ≡ at) = subst (λ (e : Edge). ReadsAfter (At cs h) h cs e.before e.symbol path.1 b at p path.2) is path.4 in
      let rest : Path (At cs h) h cs (turn typed path.1) path.2 (end p) to ps z v = subst (λ (e : Edge). Path (At cs h) h cs (turn e.next path.1) path.2 (end p) to ps z v) is path.5 in
      (p ∷ ps, (edge_later, path.1, path.2, has_later, (later_type cs h path.1 b at p path.2 k token t r.0 r.1, r.1), rest))
  shift a b at (other this that pa pb e l) to (p ∷ ps) z v path quiet =
      let x = here cs h a nt.OtherSpecifier at this pa in
      let y = here cs h b nt.OtherSpecifier at that pb in
      let f = first_here cs h b nt.OtherSpecifier at that.place that.tree that.scope y.0 y.1 in
      let is = first_part nt.OtherSpecifier edge_other untyped b at to p ps z v f.0 has_other f.1 f.2 path in
      let r : At cs h nt.OtherSpecifier path.1 b p path.2 × (start p ≡ at) = subst (λ (d : Edge). ReadsAfter (At cs h) h cs d.before d.symbol path.1 b at p path.2) is path.4 in
      let same = pb.only p path.1 path.2 r.0 r.1 (λ k token has. none_in k (subst (λ (ks : List Class). Has ks k) others_stop has)) in
      let rest : Path (At cs h) h cs untyped path.2 (end p) to ps z v
      = subst (λ (q : ℕ). Path (At cs h) h cs q path.2 (end p) to ps z v) (turn_none untyped path.1 untyped_turns) (subst (λ (d : Edge). Path (At cs h) h cs (turn d.next path.1) path.2 (end p) to ps z v) is path.5) in
      let rest' : Path (At cs h) h cs untyped that.scope (end this.tree) to ps z v
      = subst (λ (s : Scope). Path (At cs h) h cs untyped s (end this.tree) to ps z v) (sym same.2)
      (subst (λ (i : ℕ). Path (At cs h) h cs untyped path.2 i to ps z v) (sym (e ∙ ap end same.0)) rest) in
      let more = shift this.scope that.scope (end this.tree) l to ps z v rest' quiet in (
        this.tree ∷ more.0,
        (
          edge_later,
          this.place,
          this.scope,
          has_later,
          (later_other cs h this.place a this.tree this.scope x.0, x.1),
          subst (λ (q : ℕ). Path (At cs h) h cs q this.scope (end this.tree) to more.0 z v) (sym (turn_none typed this.place typed_turns)) more.1,
        ),
      )
    where
      none_in : (k : Class) → Has [] k → ⊥
      none_in k has = none_not has.1

  -- from the first place on as from that behind others
  to_untyped : (s : Scope) (at to : ℕ) (ps : List Tree) (z : ℕ) (v : Scope) → (begun ≡ z → ⊥) → Path (At cs h) h cs begun s at to ps z v → Path (At cs h) h cs untyped s at to ps z v
  to_untyped s at to [] z v inner path = absurd (inner path.1)
  to_untyped s at to (p ∷ ps) z v inner path = (path.0, path.1, path.2, subst (λ (es : List Edge). Has es path.0) same_edges path.3, path.4, path.5)

-- ---- specifiers before others

module _ (cs : List Lexeme) (h : ℕ) (s : Scope) (from mid : ℕ) (b : Before cs h s from mid) (d : Nonterminal) (fine : every c_specifiers (kinds d) ≡ true) (free : Opened cs d s from) where
  record Longer (n : ℕ) (g : Nonterminal) (z : ℕ) (t : Tree) (w : Scope) : Type 0 where
    tree : Tree
    at : At cs n g z s tree w
    begins : start tree ≡ from
    same : end tree ≡ end t

  longer : (z : ℕ) (p : Tree) (w : Scope) → At cs (suc h) d z s p w → start p ≡ mid → Quiet cs w (end p) → Longer (suc h) d z p w
  longer z p w a e quiet = record {
    tree = node (name p) from (end p) all.0;
    at = (
      a.0,
      kind_node cs h (name p) from (end p) all.0 z s w i.state i.leaves i.ended (subst (λ (q : ℕ). Path (At cs h) h cs q s from (end p) all.0 z i.state) (sym place) all.1),
      subst (Opened cs d s) (sym (ap (λ x. x.from) (rolled (name p) from (end p) all.0))) free,
    );
    begins = ap (λ x. x.from) (rolled (name p) from (end p) all.0);
    same = ap (λ x. x.to) (rolled (name p) from (end p) all.0);
  }
    where
      i : Inside cs h z s p w
      i = kind_of cs h z s p w a.1

      checked : (eqb (home z) begun ≡ true) × (not (scoped z) ≡ true)
      checked = and_parts (eqb (home z) begun) (not (scoped z)) (every_has c_specifiers (kinds d) fine z a.0)

      place : home z ≡ begun
      place = eqb-true (home z) begun checked.0

      state : w ≡ i.state
      state = i.leaves ∙ ap (λ (c : Bool). leave c s i.state) (not_false (scoped z) checked.1)

      inner : begun ≡ z → ⊥
      inner q = no_name z (name p) (subst (λ (v : ℕ). name_of v ≡ Some (name p)) (sym (place ∙ q)) i.ended.0)

      path : Path (At cs h) h cs begun s mid (end p) (parts p) z i.state
      path = subst (λ (n : ℕ). Path (At cs h) h cs begun s n (end p) (parts p) z i.state) e (subst (λ (q : ℕ). Path (At cs h) h cs q s (start p) (end p) (parts p) z i.state) place i.path)

      shifted : (rest : List Tree) × Path (At cs h) h cs typed b.after mid (end p) rest z i.state
      shifted = shift cs h b.after s mid b.led (end p) (parts p) z i.state (to_untyped cs h s mid (end p) (parts p) z i.state inner path) (subst (λ (v : Scope). Quiet cs v (end p)) state quiet)

      all : (front : List Tree) × Path (At cs h) h cs begun s from (end p) front z i.state
      all = b.chain.joins (end p) shifted.0 z i.state shifted.1

  -- what begins with them
  outer : (g : Nonterminal) → every (λ v. leads d (home v)) (kinds g) ≡ true → shuns g ≡ None → (z : ℕ) (t : Tree) (w : Scope) → At cs (suc (suc h)) g z s t w → start t ≡ mid → Longer (suc (suc h)) g z t w
  outer g fits open_g z t w a e = by_parts (parts t) (subst (λ (n : ℕ). Path (At cs (suc h)) (suc h) cs (home z) s n (end t) (parts t) z i.state) e i.path)
    where
      i : Inside cs (suc h) z s t w
      i = kind_of cs (suc h) z s t w a.1

      k : (c : Class) × (class_at cs s mid ≡ Some c) × (among c starts ≡ true)
      k = led_starts cs h b.after s mid b.led

      -- behind the specifiers no other ones begin
      quiet_behind : (v : Edge) (y : ℕ) → is_quiet v ≡ true → (x : Scope) (at : ℕ) (ps : List Tree) → Path (At cs (suc h)) (suc h) cs (turn v.next y) x at (end t) ps z i.state → Quiet cs x at
      quiet_behind v y q x at ps path =
          let c = and_parts (not (is_some (name_of v.next))) (not (is_some (turning v.next)) && every (λ c. not (among c (entering v.next))) starts) q in
          let r = and_parts (not (is_some (turning v.next))) (every (λ c. not (among c (entering v.next))) starts) c.1 in
          by_rest ps (none_is (name_of v.next) c.0) r.1
          (subst (λ (n : ℕ). Path (At cs (suc h)) (suc h) cs n x at (end t) ps z i.state) (turn_none v.next y (none_is (turning v.next) r.0)) path)
        where
          by_rest : (ps : List Tree) → name_of v.next ≡ None → every (λ c. not (among c (entering v.next))) starts ≡ true → Path (At cs (suc h)) (suc h) cs v.next x at (end t) ps z i.state → Quiet cs x at
          by_rest [] unnamed still path = absurd (none_not (sym unnamed ∙ ap name_of path.1 ∙ i.ended.0))
          by_rest (p ∷ ps) unnamed still path = λ c token start. (
              let f = path_enters cs (suc h) v.next x at (end t) p ps z i.state path in
              let same : f.class ≡ c = some_is (sym f.token ∙ token) in
              not_use (among c (entering v.next)) (every_has (λ o. not (among o (entering v.next))) starts still c (among_has c starts start)) (enters_among v.next c (subst (Enters v.next) same f.begins)))

      by_parts : (ps : List Tree) → Path (At cs (suc h)) (suc h) cs (home z) s mid (end t) ps z i.state → Longer (suc (suc h)) g z t w
      by_parts [] path = absurd (no_name z (name t) (subst (λ (v : ℕ). name_of v ≡ Some (name t)) (sym path.1) i.ended.0))
      by_parts (p ∷ ps) path =
          let v = path.0 in
          let f = reads_first cs (suc h) v.before v.symbol path.1 s mid p path.2 path.4 in
          let same : f.class ≡ k.0 = some_is (sym f.token ∙ k.1) in
          let meets = some_at (λ c. among c (beginners v.before v.symbol)) starts (among_has k.0 starts k.2).0 k.0 (among_has k.0 starts k.2).1
          (begins_among v.before v.symbol k.0 (subst (Begins v.before v.symbol) same f.begins)) in
          let both = and_parts (is_plain d v) (is_quiet v)
          (when_use (some (λ c. among c (beginners v.before v.symbol)) starts) (is_plain d v && is_quiet v)
          (every_has (λ o. when (some (λ c. among c (beginners o.before o.symbol)) starts) (is_plain d o && is_quiet o)) (edges (home z)) (every_has (λ o. leads d (home o)) (kinds g) fits z a.0) v path.3) meets) in
          let plain = and_parts (not (is_some v.before)) (is_node d v.symbol) both.0 in
          let r = plain_read cs d (suc h) v.before v.symbol path.1 s mid p path.2 plain.0 (node_of d v.symbol plain.1) path.4 in
          let l = longer path.1 p path.2 r.0 r.1 (quiet_behind v path.1 both.1 path.2 (end p) ps path.5) in
          let whole : Path (At cs (suc h)) (suc h) cs (home z) s from (end t) (l.tree ∷ ps) z i.state
          = (
            v,
            path.1,
            path.2,
            path.3,
            plain_write cs d (suc h) v.before v.symbol path.1 s from l.tree path.2 plain.0 (node_of d v.symbol plain.1) (l.at, l.begins),
            subst (λ (n : ℕ). Path (At cs (suc h)) (suc h) cs (turn v.next path.1) path.2 n (end t) ps z i.state) (sym l.same) path.5,
          ) in
          record {
            tree = node (name t) from (end t) (l.tree ∷ ps);
            at = (a.0, kind_node cs (suc h) (name t) from (end t) (l.tree ∷ ps) z s w i.state i.leaves i.ended whole, all_open cs g s (start (node (name t) from (end t) (l.tree ∷ ps))) open_g);
            begins = ap (λ x. x.from) (rolled (name t) from (end t) (l.tree ∷ ps));
            same = ap (λ x. x.to) (rolled (name t) from (end t) (l.tree ∷ ps));
          }

-- an external declaration with specifiers before it
pub external_joins : (cs : List Lexeme) (from mid : ℕ) → Before cs 510 empty from mid → (t : Tree) (w : Scope) → External cs empty mid t w → (u : Tree) × External cs empty from u w
external_joins cs from mid b t w = by_goal
  where
    longer_whole : (g : Nonterminal) → every (λ z. leads nt.DeclarationSpecifiers (home z)) (kinds g) ≡ true → shuns g ≡ None → SpansFrom g cs empty mid t w → (u : Tree) × SpansFrom g cs empty from u w
    longer_whole g c o d =
        let a = of_derives g cs empty mid t w d in
        let l = outer cs 510 empty from mid b nt.DeclarationSpecifiers specifiers_checked (all_open cs nt.DeclarationSpecifiers empty from open_specifiers) g c o a.kind t w a.at a.from in
        (l.tree, to_derives g cs empty from l.tree w (record { kind = a.kind; at = l.at; from = l.begins; to = l.same ∙ a.to }))

    by_goal : External cs empty mid t w → (u : Tree) × External cs empty from u w
    by_goal (inl d) = (let l = longer_whole nt.FunctionDefinition definitions_checked open_definition d in (l.0, inl l.1))
    by_goal (inr d) = (let l = longer_whole nt.Declaration declarations_checked open_declaration d in (l.0, inr l.1))

-- an item of a block with specifiers before it
pub item_joins : (cs : List Lexeme) (s : Scope) (h from mid : ℕ) → 2 ≤ h → Before cs (h - 2) s from mid → (t : Tree) (z : ℕ) (w : Scope) → At cs h nt.BlockItem z s t w → start t ≡ mid
    → (u : Tree) × At cs h nt.BlockItem z s u w × (start u ≡ from)
item_joins cs s h from mid deep b t z w a e =
    let size : suc (suc (h - 2)) ≡ h = omega (arith, deep) in
    let l = outer cs (h - 2) s from mid b nt.BlockSpecifiers block_checked b.chain.opened nt.BlockItem items_checked open_item z t w (subst (λ (n : ℕ). At cs n nt.BlockItem z s t w) (sym size) a) e in
    (l.tree, subst (λ (n : ℕ). At cs n nt.BlockItem z s l.tree w) size l.at, l.begins)

no_brace : every (λ v. not (eqb (class_number v) (class_number cl.RightBrace))) starts ≡ true
unfolding firsts goal goals
no_brace = refl

-- it ends no block
pub item_starts : (cs : List Lexeme) (h : ℕ) (s : Scope) (from mid : ℕ) → Before cs h s from mid → (k : Class) × (class_at cs s mid ≡ Some k) × (k ≡ cl.RightBrace → ⊥)
item_starts cs h s from mid b = (
  k.0,
  k.1,
  λ e. not_use (eqb (class_number k.0) (class_number cl.RightBrace)) (every_has (λ v. not (eqb (class_number v) (class_number cl.RightBrace))) starts no_brace k.0 (among_has k.0 starts k.2))
      (eq-eqb (class_number k.0) (class_number cl.RightBrace) (ap class_number e)),
)
  where
    k : (c : Class) × (class_at cs s mid ≡ Some c) × (among c starts ≡ true)
    k = led_starts cs h b.after s mid b.led

-- ---- how they are read

-- others than of types were read, from one token up to another
pub record Others (cs : List Lexeme) (h : ℕ) (s : Scope) (from : ℕ) (after : Scope) (at : ℕ) : Type 0 where
  pub opened : ((at ≡ from) × (after ≡ s)) ⊎ Opened cs nt.BlockSpecifiers s from
  pub joins : (to : ℕ) (p : Tree) (ps : List Tree) (z : ℕ) (v : Scope) → Path (At cs h) h cs untyped after at to (p ∷ ps) z v → (all : List Tree) × Path (At cs h) h cs begun s from to all z v

module _ (cs : List Lexeme) (h : ℕ) (s : Scope) (from : ℕ) where
  pub no_others : (after : Scope) → after ≡ s → Others cs h s from after from
  no_others after e = record {
    opened = inl (refl, e);
    joins = λ to p ps z v path. (
      p ∷ ps,
      (
        path.0,
        path.1,
        path.2,
        subst (λ (es : List Edge). Has es path.0) (sym same_edges) path.3,
        subst (λ (x : Scope). ReadsAfter (At cs h) h cs path.0.before path.0.symbol path.1 x from p path.2) e path.4,
        path.5,
      ),
    );
  }

  -- a later specifier begins no label
  opens : (after : Scope) (at : ℕ) (g : Nonterminal) (f : Found) → Parses cs h after g at (Some f) → every (λ y. kind_in y (kinds nt.LaterSpecifier)) (kinds g) ≡ true
      → ((at ≡ from) × (after ≡ s)) ⊎ Opened cs nt.BlockSpecifiers s from → Opened cs nt.BlockSpecifiers s from
  opens after at g f p t (inr o) = o
  opens after at g f p t (inl e) = λ c token bar. (
      let x = here cs h after g at f p in
      let l : At cs h nt.LaterSpecifier f.place after f.tree f.scope
      = (kind_has f.place (kinds nt.LaterSpecifier) (every_has (λ y. kind_in y (kinds nt.LaterSpecifier)) (kinds g) t f.place x.0.0), x.0.1, all_open cs nt.LaterSpecifier after (start f.tree) open_later) in
      let k = first_here cs h after nt.LaterSpecifier at f.place f.tree f.scope l x.1 in
      let token' : class_at cs s from ≡ Some k.0 = subst (λ (i : ℕ). class_at cs s i ≡ Some k.0) e.0 (subst (λ (v : Scope). class_at cs v at ≡ Some k.0) e.1 k.1) in
      let same : c ≡ k.0 = some_is (sym token ∙ token') in
      not_use (among k.0 (barred (shuns nt.BlockSpecifiers)))
      (every_has (λ v. not (among v (barred (shuns nt.BlockSpecifiers)))) (firsts nt.LaterSpecifier) labels_checked k.0 k.2)
      (has_among k.0 (barred (shuns nt.BlockSpecifiers)) (subst (Has (barred (shuns nt.BlockSpecifiers))) same bar)))

  pub one_other : (after : Scope) (at : ℕ) (f : Found) → Others cs h s from after at → Parses cs h after nt.OtherSpecifier at (Some f) → Others cs h s from f.scope (end f.tree)
  one_other after at f o p = record {
    opened = inr (opens after at nt.OtherSpecifier f p others_checked o.opened);
    joins = λ to q qs z v path. o.joins to f.tree (q ∷ qs) z v (
      edge_other,
      f.place,
      f.scope,
      has_other,
      here cs h after nt.OtherSpecifier at f p,
      subst (λ (n : ℕ). Path (At cs h) h cs n f.scope (end f.tree) to (q ∷ qs) z v) (sym (turn_none untyped f.place untyped_turns)) path,
    );
  }

  pub one_type : (after : Scope) (at mid : ℕ) (f : Found) → Others cs h s from after at → Parses cs h after nt.LaterTypeSpecifier at (Some f) → end f.tree ≡ mid → Chain cs h s from mid f.scope
  one_type after at mid f o p e =
      let x = here cs h after nt.LaterTypeSpecifier at f p in
      let first : At cs h nt.TypeSpecifier f.place after f.tree f.scope
      = (kind_has f.place (kinds nt.TypeSpecifier) (every_has (λ y. kind_in y (kinds nt.TypeSpecifier)) (kinds nt.LaterTypeSpecifier) first_checked f.place x.0.0), x.0.1, all_open cs nt.TypeSpecifier after (start f.tree) open_type) in
      record {
        opened = opens after at nt.LaterTypeSpecifier f p later_checked o.opened;
        joins = λ to ps z v path. o.joins to f.tree ps z v (
          edge_type,
          f.place,
          f.scope,
          has_type,
          (first, x.1),
          subst (λ (n : ℕ). Path (At cs h) h cs n f.scope (end f.tree) to ps z v) (sym (turn_none typed f.place typed_turns)) (subst (λ (n : ℕ). Path (At cs h) h cs typed f.scope n to ps z v) (sym e) path),
        );
      }

-- more specifiers behind them
pub one_later : (cs : List Lexeme) (h : ℕ) (s : Scope) (from mid : ℕ) (after : Scope) (f : Found) → Chain cs h s from mid after → Parses cs h after nt.LaterSpecifier mid (Some f) → Chain cs h s from (end f.tree) f.scope
one_later cs h s from mid after f c p = record {
  opened = c.opened;
  joins = λ to ps z v path. c.joins to (f.tree ∷ ps) z v (
    edge_later,
    f.place,
    f.scope,
    has_later,
    here cs h after nt.LaterSpecifier mid f p,
    subst (λ (n : ℕ). Path (At cs h) h cs n f.scope (end f.tree) to ps z v) (sym (turn_none typed f.place typed_turns)) path,
  );
}

pub chain_more : (cs : List Lexeme) (h : ℕ) (s : Scope) (from mid to : ℕ) (before : Scope) (r : Result (Option Scope) Memory)
    → IfOk r (λ it. IfSome it (λ after. (x : Scope) (first : ℕ) → Chain cs h x first mid before → Chain cs h x first to after)) → Chain cs h s from mid before → IfOk r (λ it. IfSome it (Chain cs h s from to))
chain_more cs h s from mid to before (Ok (Some after)) a c = a s from c
chain_more cs h s from mid to before (Ok None) a c = tt
chain_more cs h s from mid to before (Err e) a c = tt

pub led_here : (cs : List Lexeme) (h : ℕ) (a b : Scope) (at : ℕ) → a ≡ b → (k : Class) × (class_at cs b at ≡ Some k) × Has type_words k → Led cs h a b at
led_here cs h a b at e k = subst (λ (x : Scope). Led cs h x b at) (sym e) (of_type k.0 k.1 k.2)
